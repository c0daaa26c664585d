-- The page of each kind of fault or refusal.
use Rattle.std.specs.Prelude.{ℕ, List, [], ◌∷◌, ◌++◌, Option, None, Some, codes, flat_map}
use Rattle.vme_faults.specs.RefusalKinds.{all_kinds, kind_name}
use Rattle.vme_faults.specs.declared.refusal_kind.RefusalKind.{RefusalKind}
use Rattle.vme_faults.specs.declared.refusal_kind.RefusalKind.TheVariants as kind

-- the line feed and the indent with which a text continues in the next line
abbrev pub turn : List ℕ
turn = 10 ∷ 32 ∷ 32 ∷ 32 ∷ 32 ∷ []

-- what a kind means
abbrev pub means_of : RefusalKind → List ℕ
means_of kind.BadToken = codes "a token of the dump may not stand where it stands"
means_of kind.UnfinishedSection = codes "a section, a change or a bracket that the dump ends in"
means_of kind.BadVar = codes "a declaration that is none"
means_of kind.ScopeUnderflow = codes "an `$upscope` where no scope is open"
means_of kind.NoEndDefinitions = codes "the dump ends before its `$enddefinitions`"
means_of kind.UndeclaredCode = codes "a change of a code that no variable has"
means_of kind.SizeConflict = codes "a code is declared again with another size"
means_of kind.TooWide = codes "a change of more digits than its variable has bits"
means_of kind.TimeBackwards = codes "a time before the one that came last"
means_of kind.NumberTooLarge = codes "a size over 65,536 bits, or a time past 18,446,744,073,709,551,615"
means_of kind.SlotsFirst = codes "the first line of the binding that says something isn't `slots N`"
means_of kind.BadLine = codes "a line of the binding isn't `NAME = SOURCE`"
means_of kind.UnknownName = codes "a name that no line of the backplane has, and no group"
means_of kind.NamedTwice = codes "a line of the backplane that is bound before"
means_of kind.Unbound = codes "a line of the backplane that isn't bound, the least one"
means_of kind.NoSuchPath = codes "the dump has no variable of this path, or none with these bits"
means_of kind.AmbiguousPath = codes "the dump has several variables of this path, and they aren't the same bits"
means_of kind.WrongWidth = codes "the variable has more bits than the lines, or fewer"
means_of kind.TooManySteps = codes "over 268,435,456 instants at which a bound line changes"
means_of kind.BadHeader = codes "the first line of the listing isn't that of a listing"
means_of kind.BadRow = codes "a row of the listing isn't written as a row is, or may not stand there"
means_of kind.Unsorted = codes "a row of the listing isn't behind the one before it"
means_of kind.CannotOpen = codes "the file of an input can't be opened"
means_of kind.CannotRead = codes "the bytes of an input can't be had"
means_of kind.TooLong = codes "an input has over 268,435,456 bytes, or a listing over 137,438,953,472"
means_of kind.TooManyBlocks = codes "over 4,096 blocks of the size that was asked"
means_of kind.OutOfMemory = codes "there is no memory, or none is given"

-- what was expected there
abbrev pub expected_of : RefusalKind → List ℕ
expected_of kind.BadToken =
    codes "in the header a section, as `$var wire 1 ! AS $end`; behind `$enddefinitions` a time"
    ++ turn ++ codes "(`#100`), a change (`0!`, `x!`, `b01z !`), `$dumpvars`, `$dumpall`, `$dumpon`, `$dumpoff` or"
    ++ turn ++ codes "`$comment`, each up to its `$end`"
expected_of kind.UnfinishedSection = codes "the `$end` of that section, or the code of that change"
expected_of kind.BadVar = codes "`$var`, a type, a size in digits, a code of visible characters, a name and `$end`"
expected_of kind.ScopeUnderflow = codes "a `$scope` for each `$upscope`, before it"
expected_of kind.NoEndDefinitions = codes "a header up to `$enddefinitions $end`, and changes behind it"
expected_of kind.UndeclaredCode = codes "the code of a variable of the header"
expected_of kind.SizeConflict = codes "one size for each code"
expected_of kind.TooWide = codes "at most as many digits as the header declares bits"
expected_of kind.TimeBackwards = codes "times that never go back"
expected_of kind.NumberTooLarge = codes "a smaller number"
expected_of kind.SlotsFirst = codes "`slots N`, N from 1 to 21 without leading zeros"
expected_of kind.BadLine =
    codes "three words with spaces between them: a line or a group, `=`, and a path, `0`, `1` or"
    ++ turn ++ codes "`x`"
expected_of kind.UnknownName =
    codes "AS, DS0, DS1, DTACK, BERR, IACK, AM0 to AM5, A01 to A31, D00 to D31, LWORD, WRITE, BBSY,"
    ++ turn ++ codes "BR0 to BR3, SYSRESET, of N slots BG0.0 to BG3.N and IA.1 to IA.N, or a group: AM, A, D, BR, BG0"
    ++ turn ++ codes "to BG3, IA"
expected_of kind.NamedTwice = codes "each line once"
expected_of kind.Unbound =
    codes "a source for each line; the data lines may be left out together, and so may SYSRESET"
expected_of kind.NoSuchPath =
    codes "the scopes and the name of a variable, joined by dots, and bits that its index has"
expected_of kind.AmbiguousPath = codes "a path that means one variable"
expected_of kind.WrongWidth =
    codes "one bit for a line; 6 for AM, 31 for A, 32 for D, 4 for BR, N + 1 for BG0 to BG3 and N"
    ++ turn ++ codes "for IA of N slots"
expected_of kind.TooManySteps = codes "a shorter recording"
expected_of kind.BadHeader = codes "`vmecheck listing 3`, or 2 or 1"
expected_of kind.BadRow = codes "a row as `list` writes it, with one space between its words"
expected_of kind.Unsorted = codes "rows in the order of their first instants"
expected_of kind.CannotOpen = codes "the name of a file that may be read"
expected_of kind.CannotRead = codes "a file, or a pipe that ends"
expected_of kind.TooLong = codes "a shorter input"
expected_of kind.TooManyBlocks = codes "a greater block"
expected_of kind.OutOfMemory = codes "memory for the inputs and for the steps of the recording"

-- what usually causes it
abbrev pub causes_of : RefusalKind → List ℕ
causes_of kind.BadToken =
    codes "in line 1 no plain dump: an FST, an LXT or a compressed file, UTF-16, a byte order mark,"
    ++ turn ++ codes "or a binding in the dump's place; a letter such as U, W, L, H or - in a value: nine states; a"
    ++ turn ++ codes "change such as `pD`: extended VCD; a `b` with a space before its digits; `$date`, `$version` or"
    ++ turn ++ codes "`$scope` behind changes: two dumps in one file; in the last line: the dump ends in the middle"
causes_of kind.UnfinishedSection =
    codes "the simulation was killed, or the disk was full, so the dump ends in the middle; in the"
    ++ turn ++ codes "header a section without its `$end`"
causes_of kind.BadVar = codes "a vector of extended VCD, by `$dumpports`; a header that was edited by hand"
causes_of kind.ScopeUnderflow = codes "two headers were joined; a header that was edited by hand"
causes_of kind.NoEndDefinitions = codes "an empty dump, or one whose simulation ended before `$dumpvars`"
causes_of kind.UndeclaredCode =
    codes "a header that belongs to another run; two headers that were joined; a string with a space"
    ++ turn ++ codes "in it, behind `s`"
causes_of kind.SizeConflict = codes "a header that belongs to another run; two headers that were joined"
causes_of kind.TooWide =
    codes "a header that belongs to another run; two headers that were joined; a writer that pads"
    ++ turn ++ codes "its vectors to more digits than they are declared with"
causes_of kind.TimeBackwards =
    codes "the changes of two runs in one file, such as two that wrote to the same name at once"
causes_of kind.NumberTooLarge = codes "a variable of over 65,536 bits, such as a memory"
causes_of kind.SlotsFirst =
    codes "binding and dump in the wrong order; an empty file, as `bind` leaves where it is refused"
    ++ turn ++ codes "or can't run; a `slots` line that is missing or stands further down"
causes_of kind.BadLine =
    codes "a comment behind a source; a path with a space in it; no space beside `=`; a second"
    ++ turn ++ codes "`slots` line"
causes_of kind.UnknownName =
    codes "a net beyond the slots, such as BG3.4 of three slots; A00; a mark at the name, such as"
    ++ turn ++ codes "`AS*`; small letters"
causes_of kind.NamedTwice = codes "a line by itself and in its group, such as AM0 and AM"
causes_of kind.Unbound = codes "a line that wasn't recorded; a binding that was made for fewer slots"
causes_of kind.NoSuchPath =
    codes "another case of letters; a scope left out, such as `TOP.`; an index that isn't the"
    ++ turn ++ codes "variable's, or one that runs the other way, or of a variable that has none; a binding of another"
    ++ turn ++ codes "dump"
causes_of kind.AmbiguousPath =
    codes "two variables of one path; nets such as `AM [5]` and `AM [4]`, bound without the index"
causes_of kind.WrongWidth = codes "A of 32 bits; BGn or IA of another number of slots"
causes_of kind.TooManySteps = codes "a long simulation; a clock that is bound as a line"
causes_of kind.BadHeader = codes "another file; other line ends; a listing of a later version"
causes_of kind.BadRow = codes "a listing that was edited by hand, has other line ends, or ends in the middle"
causes_of kind.Unsorted = codes "a listing that was sorted or edited by hand"
causes_of kind.CannotOpen = codes "a name that is misspelt; another folder; a file that this user may not read"
causes_of kind.CannotRead =
    codes "a folder in the file's place; a disk or a network that fails; a pipe that gives a few"
    ++ turn ++ codes "bytes at once, 16,777,216 times"
causes_of kind.TooLong = codes "a long simulation; a dump of the whole design"
causes_of kind.TooManyBlocks = codes "a small `--block` of a long recording"
causes_of kind.OutOfMemory = codes "a limit, as by `ulimit -v` or of a container; a long recording"

-- the remedy
abbrev pub remedy_of : RefusalKind → List ℕ
remedy_of kind.BadToken =
    codes "`fst2vcd bus.fst > bus.vcd`, `zcat bus.vcd.gz > bus.vcd`, `iconv -f UTF-16 -t UTF-8`, or"
    ++ turn ++ codes "`tail -c +4` for a mark of three bytes, make it plain; GHDL writes four states by"
    ++ turn ++ codes "`--vcd-4states`; record with `$dumpvars` and not with `$dumpports`; cut two dumps apart; give"
    ++ turn ++ codes "the binding first and then the dump"
remedy_of kind.UnfinishedSection = codes "record again, or cut the dump before its last line that begins with #"
remedy_of kind.BadVar = codes "record with `$dumpvars`"
remedy_of kind.ScopeUnderflow = codes "take each dump with its own header alone"
remedy_of kind.NoEndDefinitions =
    codes "call `$dumpfile` and `$dumpvars` at the start of the simulation, and look whether it ended"
    ++ turn ++ codes "as it should"
remedy_of kind.UndeclaredCode = codes "record again, in one run, to a file of its own"
remedy_of kind.SizeConflict = codes "record again, in one run, to a file of its own"
remedy_of kind.TooWide =
    codes "record again, in one run, to a file of its own; declare the vector as wide as it is"
    ++ turn ++ codes "written"
remedy_of kind.TimeBackwards = codes "record each run to a file of its own"
remedy_of kind.NumberTooLarge = codes "leave its scope out of the dump: `$dumpvars(1, backplane)`"
remedy_of kind.SlotsFirst =
    codes "give the binding first and then the dump; `vmecheck bind bus.vcd > bus.bind` writes a"
    ++ turn ++ codes "binding"
remedy_of kind.BadLine =
    codes "let a comment begin with # and stand on a line of its own; write a vector such as `AM"
    ++ turn ++ codes "[5:0]` without the space"
remedy_of kind.UnknownName = codes "write the name as it stands here, or more `slots`"
remedy_of kind.NamedTwice = codes "leave one of the two out"
remedy_of kind.Unbound =
    codes "bind it to what it shows, 1 for a line that nobody drives: the list of lines that weren't"
    ++ turn ++ codes "recorded says what that does"
remedy_of kind.NoSuchPath =
    codes "`vmecheck variables bus.vcd` shows the paths; `vmecheck bind bus.vcd` looks for the lines"
remedy_of kind.AmbiguousPath =
    codes "bind the one that is meant in another scope; bind each net by its index, as `AM5 ="
    ++ turn ++ codes "bench.AM[5]`"
remedy_of kind.WrongWidth = codes "select the bits, as `A = bench.addr[31:1]`, or bind the lines one by one"
remedy_of kind.TooManySteps = codes "`audit` takes it; for the other commands cut the dump"
remedy_of kind.BadHeader = codes "`vmecheck list bus.bind bus.vcd > bus.list` writes a listing"
remedy_of kind.BadRow = codes "`vmecheck list bus.bind bus.vcd > bus.list` writes a listing"
remedy_of kind.Unsorted = codes "`vmecheck list bus.bind bus.vcd > bus.list` writes a listing"
remedy_of kind.CannotOpen = codes "`ls -l` of that name shows whether it is there, and who may read it"
remedy_of kind.CannotRead = codes "copy the file to a disk of this machine"
remedy_of kind.TooLong =
    codes "`audit` takes dumps of any length; for the other commands record the backplane's scope"
    ++ turn ++ codes "alone, `$dumpvars(1, backplane)`, or cut the dump"
remedy_of kind.TooManyBlocks = codes "leave `--block` out, or make it 65536"
remedy_of kind.OutOfMemory = codes "give more of it, or take `audit`, which keeps neither a dump nor its steps"

-- a name, a colon and its value
abbrev pub row : List ℕ → List ℕ → List ℕ
row name value = name ++ codes ": " ++ value ++ 10 ∷ []

-- the four lines of a page
abbrev pub rows : List ℕ → List ℕ → List ℕ → List ℕ → List ℕ → List ℕ
rows name means expected causes remedy =
    row name means ++ row (codes "  expected") expected ++ row (codes "  usually") causes
    ++ row (codes "  remedy") remedy

-- the page of a kind
unfoldable pub page_text : RefusalKind → List ℕ
page_text k = rows (kind_name k) (means_of k) (expected_of k) (causes_of k) (remedy_of k)

-- the page of one kind, or those of all
abbrev pub pages_of : Option RefusalKind → List ℕ
pages_of (Some k) = page_text k
pages_of None = flat_map page_text all_kinds
