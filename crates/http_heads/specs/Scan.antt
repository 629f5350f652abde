-- Where the head of a request or a reply ends: behind the first empty line after a line that isn't empty. A line ends
-- in LF; it is empty where nothing or one CR stands before that.
use Rattle.std.specs.Prelude.{ℕ, ◌+◌, ◌==◌, List, [], ◌∷◌, take, if◌then◌else◌, Result, Ok, Err}
use Rattle.http_heads.specs.declared.scan.TheConstants.{MAX_HEAD}
use Rattle.http_heads.specs.declared.scan.Scan.{Scan}
use Rattle.http_heads.specs.declared.scan.Scan.TheVariants.{Blank, BlankReturn, Text, Start, Return, End}

-- a scan after one byte more
abbrev pub step : Scan → ℕ → Scan
step Blank b = if b == 10 then Blank else (if b == 13 then BlankReturn else Text)
step BlankReturn b = if b == 10 then Blank else Text
step Text b = if b == 10 then Start else Text
step Start b = if b == 10 then End else (if b == 13 then Return else Text)
step Return b = if b == 10 then End else Text
step End b = End

-- at the end of the head its length is known
abbrev pub scan_on : ℕ → Scan → Result ℕ Scan → Result ℕ Scan
scan_on n End rest = Ok n
scan_on n Blank rest = rest
scan_on n BlankReturn rest = rest
scan_on n Text rest = rest
scan_on n Start rest = rest
scan_on n Return rest = rest

-- the length of the head, where it ends in these bytes, of which `n` came before; else where the scan stands
abbrev pub scan : ℕ → Scan → List ℕ → Result ℕ Scan
scan n s [] = Err s
scan n s (b ∷ bytes) = scan_on (n + 1) (step s b) (scan (n + 1) (step s b) bytes)

-- a head has at most 16,384 bytes
abbrev pub head_end : List ℕ → Result ℕ Scan
head_end b = scan 0 Blank (take MAX_HEAD b)
