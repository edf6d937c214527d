use Rattle.std.proofs.Common.{◌≡◌, rules, refl, subst, string_bytes, IsUtf8}
use Rattle.std.proofs.lemmas.Str.{IsUtf8-string_bytes}
use Rattle.filter_cases.proofs.case.case_with.Goals as goal

pub returns : goal.returns
returns c =
    let same : string_bytes c.in-Ok.text ≡ c.args.text.items = search rules in (
      refl,
      record {
        same = same;
        characters = subst IsUtf8 same (IsUtf8-string_bytes c.in-Ok.text);
        short = search rules;
        said = search rules;
      },
    )
