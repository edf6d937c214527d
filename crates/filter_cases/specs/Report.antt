-- What is reported of cases that were tried.
use Rattle.std.specs.Prelude.{ℕ, not, Bool, if◌then◌else◌, List, [], ◌++◌, length, filter, codes}
use Rattle.std.specs.List.{flat_map}
use Rattle.std.specs.Fmt.{decimal}
use Rattle.filter_cases.specs.Cases.{Case}
use Rattle.filter_cases.specs.Wanted.{is_met, wanted_text}
use Rattle.filter_cases.specs.Xml.{xml_text}
use Rattle.filter_cases.specs.declared.report.ReportForm.{ReportForm}
use Rattle.filter_cases.specs.declared.report.ReportForm.TheVariants.{Lines, Junit}

-- a case, and the verdict that the filter gave on its span
pub record Tried : Type 0 where
  pub case : Case
  pub got : ℕ

abbrev pub passes : Tried → Bool
passes tried = is_met tried.case.wanted tried.got

-- how many passed, and how many didn't
abbrev pub passed : List Tried → ℕ
passed all = length (filter passes all)

abbrev pub failed : List Tried → ℕ
failed all = length (filter (λ tried. not (passes tried)) all)

-- ---- as lines: one for each case that didn't pass, and how many passed
abbrev pub failure_line : Tried → List ℕ
failure_line tried =
    codes "case " ++ (decimal tried.case.line ++ (codes " wanted " ++ (wanted_text tried.case.wanted
    ++ (codes " got " ++ (decimal tried.got ++ codes "\n")))))

abbrev pub line_of : Tried → List ℕ
line_of tried = if passes tried then [] else failure_line tried

abbrev pub summary : List Tried → List ℕ
summary all = decimal (passed all) ++ (codes " passed, " ++ (decimal (failed all) ++ codes " failed\n"))

-- ---- as JUnit's XML: a test case for each, named by its line and its text
abbrev pub failure_element : Tried → List ℕ
failure_element tried =
    codes "\"><failure message=\"wanted " ++ (wanted_text tried.case.wanted
    ++ (codes ", got " ++ (decimal tried.got ++ codes "\"/></testcase>\n")))

abbrev pub element_end : Tried → List ℕ
element_end tried = if passes tried then codes "\"/>\n" else failure_element tried

unfoldable pub element_of : Tried → List ℕ
element_of tried =
    codes "  <testcase classname=\"hub test\" name=\"line " ++ (decimal tried.case.line ++ (codes ": "
    ++ (xml_text tried.case.text ++ element_end tried)))

abbrev pub junit : List Tried → List ℕ
junit all =
    codes "<?xml version=\"1.0\" encoding=\"UTF-8\"?>\n<testsuite name=\"hub test\" tests=\"" ++ (decimal (length all)
    ++ (codes "\" failures=\"" ++ (decimal (failed all) ++ (codes "\">\n" ++ (flat_map element_of all
    ++ codes "</testsuite>\n")))))

abbrev pub report : ReportForm → List Tried → List ℕ
report Lines all = flat_map line_of all ++ summary all
report Junit all = junit all
