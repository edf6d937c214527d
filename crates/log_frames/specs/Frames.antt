-- Which commits of a log are lost behind a wrong frame: SQLite's file format, section 4, "The Write-Ahead Log".
--
-- A log has a header of 32 bytes: the magic number, the version, the size of pages, a count, two salts, and the sum of
-- these. Frames follow, each of a header of 24 bytes and a page: the number of the page, the size of the database
-- where the frame commits and else 0, the salts, and the sum of the first two numbers and the page, which goes on from
-- the sum stored before it. A reader takes frames up to the first that doesn't.
--
-- Each commit is synced before the next is written, so a power cut can tear the last one alone. Where two frames behind
-- a wrong one commit and go on from the sum stored before each, another one than the last was damaged.
use Rattle.std.specs.Prelude.{ℕ, zero, suc, ◌+◌, ◌-◌, ◌*◌, ◌/◌, ◌%◌, ◌==◌, nat_lt, Bool, true, false, not, ◌&&◌, ◌||◌}
use Rattle.std.specs.Prelude.{if◌then◌else◌, List, length, drop, slice_range}
use Rattle.sqlite_wal.specs.Format.{be32, checksum, stored_sum}
use Rattle.log_frames.specs.declared.reading.Reading.{Reading}
use Rattle.log_frames.specs.declared.reading.Reading.TheVariants.{Whole, Ended, Broken}
use Rattle.log_frames.specs.declared.reading.Terms.{Terms}

-- two pairs of words are one
abbrev pub same : ℕ × ℕ → ℕ × ℕ → Bool
same a b = (a.0 == b.0) && (a.1 == b.1)

abbrev pub frame_bytes : ℕ → ℕ
frame_bytes page_size = 24 + page_size

-- frame `index`, counted from 0
unfoldable pub frame_of : ℕ → List ℕ → ℕ → List ℕ
frame_of page_size log index =
    slice_range log (32 + index * frame_bytes page_size) (32 + index * frame_bytes page_size + frame_bytes page_size)

-- how many whole frames there are
abbrev pub frame_count : ℕ → List ℕ → ℕ
frame_count page_size log = (length log - 32) / frame_bytes page_size

-- the header has the magic number and its own sum
unfoldable pub is_signed : List ℕ → Bool
is_signed log =
    (be32 log 0 == 0x377f0682 || be32 log 0 == 0x377f0683)
    && same (checksum (be32 log 0 == 0x377f0683) (0, 0) (slice_range log 0 24)) (stored_sum log 24)

-- The first byte of the magic number is 0: the writer has copied all commits into the database, and begins the log
-- again.
abbrev pub is_emptied : List ℕ → Bool
is_emptied log = (be32 log 0 == 0x007f0682) || (be32 log 0 == 0x007f0683)

-- a frame has the salts, is of a page, and its sum goes on from this one
unfoldable pub follows : Bool → ℕ × ℕ → ℕ × ℕ → List ℕ → Bool
follows is_big salts before frame =
    same (stored_sum frame 8) salts && not (be32 frame 0 == 0)
    && same (checksum is_big (checksum is_big before (slice_range frame 0 8)) (drop 24 frame)) (stored_sum frame 16)

-- A frame has the salts but for the first byte, which a writer sets last when it commits: until then it is 0, or 1
-- where the salt has a 0 there.
abbrev pub mark_byte : ℕ → ℕ
mark_byte salt = if salt / 0x1000000 == 0 then 1 else 0

unfoldable pub is_mark : ℕ × ℕ → List ℕ → Bool
is_mark salts frame =
    (be32 frame 8 / 0x1000000 == mark_byte salts.0) && (be32 frame 8 % 0x1000000 == salts.0 % 0x1000000)
    && (be32 frame 12 == salts.1)

abbrev pub commits : List ℕ → Bool
commits frame = not (be32 frame 4 == 0)

-- how many commits are counted behind a wrong frame
abbrev pub counted : Reading → ℕ
counted Whole = 0
counted Ended = 0
counted (Broken count) = count

-- what is found with one frame more, of which these are said
abbrev pub after : Reading → Bool → Bool → Bool → Reading
after Whole follows mark commits = if follows then Whole else (if mark then Ended else Broken 0)
after Ended follows mark commits = Ended
after (Broken count) follows mark commits = if follows && commits then Broken (count + 1) else Broken count

-- the sum that is stored before a frame
abbrev pub sum_before : ℕ → List ℕ → ℕ → ℕ × ℕ
sum_before page_size log zero = stored_sum log 24
sum_before page_size log (suc index) = stored_sum (frame_of page_size log index) 16

-- what is found of the first frames, so many
unfoldable pub read_to : Terms → Reading → List ℕ → ℕ → Reading
read_to terms begin log zero = begin
read_to terms begin log (suc index) =
    let frame = frame_of terms.page_size log index in
    after (read_to terms begin log index)
    (follows terms.is_big terms.salts (sum_before terms.page_size log index) frame)
    (is_mark terms.salts frame) (commits frame)

-- a power cut explains one commit behind a wrong frame, and not two
abbrev pub told : Reading → ℕ
told Whole = 0
told Ended = 0
told (Broken count) = if nat_lt 1 count then count else 0

-- the salts of the second frame, if there is one
abbrev pub second_salts : ℕ → List ℕ → ℕ × ℕ
second_salts page_size log =
    let start = 32 + frame_bytes page_size in
    if nat_lt (length log) (start + 16) then (0, 0) else stored_sum log (start + 8)

abbrev pub all_of : Terms → Reading → List ℕ → ℕ
all_of terms begin log = told (read_to terms begin log (frame_count terms.page_size log))

-- How many commits are lost. Where the header is wrong, its salts and its size of pages are unknown, and all frames are
-- behind it.
unfoldable pub lost_commits : ℕ → List ℕ → ℕ
lost_commits page_size log =
    if nat_lt (length log) 32 then 0
    else (if is_signed log
    then all_of (record { is_big = be32 log 0 == 0x377f0683; salts = stored_sum log 16; page_size = be32 log 8 }) Whole
    log
    else (if is_emptied log then 0
    else all_of (record { is_big = false; salts = second_salts page_size log; page_size = page_size }) (Broken 0) log))
