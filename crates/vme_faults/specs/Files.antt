-- What kind of file some bytes are, by the first of them.
use Rattle.std.specs.Prelude.{ℕ, Bool, true, false, not, ◌==◌, ◌&&◌, ◌||◌, nat_eq, nat_le, if◌then◌else◌, List, [], ◌∷◌}
use Rattle.std.specs.Prelude.{Option, None, Some, codes}
use Rattle.std.specs.List.{starts_with}
use Rattle.vcd_read.specs.Numbers.{is_empty}
use Rattle.vcd_read.specs.Tokens.{is_space}
use Rattle.vme_faults.specs.declared.file_kind.FileKind.{FileKind}
use Rattle.vme_faults.specs.declared.file_kind.FileKind.TheVariants as file

-- the bytes begin with `magic`
unfoldable pub begins_with : List ℕ → List ℕ → Bool
begins_with magic bytes = starts_with nat_eq bytes magic

-- the header of an FST: a block of kind 0 and of 329 bytes
abbrev pub fst_magic : List ℕ
fst_magic = 0 ∷ 0 ∷ 0 ∷ 0 ∷ 0 ∷ 0 ∷ 0 ∷ 1 ∷ 73 ∷ []

-- what gzip writes first
abbrev pub gzip_magic : List ℕ
gzip_magic = 31 ∷ 139 ∷ []

-- what xz writes first
abbrev pub xz_magic : List ℕ
xz_magic = 253 ∷ 55 ∷ 122 ∷ 88 ∷ 90 ∷ 0 ∷ []

-- what zstd writes first
abbrev pub zstd_magic : List ℕ
zstd_magic = 40 ∷ 181 ∷ 47 ∷ 253 ∷ []

-- what bzip2 writes first
abbrev pub bzip2_magic : List ℕ
bzip2_magic = codes "BZh"

-- the byte order mark of UTF-8
abbrev pub utf8_mark : List ℕ
utf8_mark = 239 ∷ 187 ∷ 191 ∷ []

-- the byte order mark of UTF-16 whose bytes are in little-endian order
abbrev pub little_mark : List ℕ
little_mark = 255 ∷ 254 ∷ []

-- the byte order mark of UTF-16 whose bytes are in big-endian order
abbrev pub big_mark : List ℕ
big_mark = 254 ∷ 255 ∷ []

-- the text from its first word on that isn't in a comment, i.e. a line that begins with #; `within` says that the text
-- begins in a comment
unfoldable pub after_comments : Bool → List ℕ → List ℕ
after_comments within [] = []
after_comments true (b ∷ text) = after_comments (not (b == 10)) text
after_comments false (b ∷ text) =
    if is_space b then after_comments false text
    else if b == 35 then after_comments true text
    else b ∷ text

-- the first word of a binding that isn't in a comment begins with `slots`, as its first line does
unfoldable pub is_binding : List ℕ → Bool
is_binding bytes = begins_with (codes "slots") (after_comments false bytes)

-- the first word of a dump that isn't in a comment begins with a dollar sign
unfoldable pub is_dump : List ℕ → Bool
is_dump bytes = begins_with (codes "$") (after_comments false bytes)

-- a tab or above, and no byte above those of ASCII
abbrev pub is_text : ℕ → Bool
is_text b = nat_le 9 b && nat_le b 126

-- big-endian UTF-16 without a mark: the first byte is 0, and the second one is of a text
unfoldable pub is_big_utf16 : List ℕ → Bool
is_big_utf16 (high ∷ low ∷ rest) = high == 0 && is_text low
is_big_utf16 bytes = false

-- little-endian UTF-16 without a mark: the first byte is of a text, and the second one is 0
unfoldable pub is_little_utf16 : List ℕ → Bool
is_little_utf16 (low ∷ high ∷ rest) = is_text low && high == 0
is_little_utf16 bytes = false

-- the kind of a file that begins with no magic number, no byte order mark and no header of a listing
unfoldable pub unmarked : List ℕ → Option FileKind
unmarked bytes =
    if is_big_utf16 bytes then Some file.BigUtf16
    else if is_little_utf16 bytes then Some file.LittleUtf16
    else if is_dump bytes then Some file.Dump
    else if is_binding bytes then Some file.Binding
    else None

-- the kind of a file that begins with these bytes, if it is a known one
unfoldable pub file_kind : List ℕ → Option FileKind
file_kind bytes =
    if is_empty bytes then Some file.Empty
    else if begins_with fst_magic bytes then Some file.Fst
    else if begins_with gzip_magic bytes then Some file.Gzip
    else if begins_with xz_magic bytes then Some file.Xz
    else if begins_with zstd_magic bytes then Some file.Zstd
    else if begins_with bzip2_magic bytes then Some file.Bzip2
    else if begins_with utf8_mark bytes then Some file.MarkedUtf8
    else if begins_with little_mark bytes || begins_with big_mark bytes then Some file.MarkedUtf16
    else if begins_with (codes "vmecheck listing ") bytes then Some file.Listing
    else unmarked bytes

-- what such a file is
abbrev pub file_name : FileKind → List ℕ
file_name file.Empty = codes "an empty file"
file_name file.Fst = codes "an FST, a waveform in the format of GTKWave"
file_name file.Gzip = codes "a file that gzip compressed"
file_name file.Xz = codes "a file that xz compressed"
file_name file.Zstd = codes "a file that zstd compressed"
file_name file.Bzip2 = codes "a file that bzip2 compressed"
file_name file.MarkedUtf8 = codes "a text with a byte order mark before it"
file_name file.MarkedUtf16 = codes "a text in UTF-16"
file_name file.LittleUtf16 = codes "a text in UTF-16, the low byte first and without a mark"
file_name file.BigUtf16 = codes "a text in UTF-16, the high byte first and without a mark"
file_name file.Listing = codes "a listing of vmecheck"
file_name file.Binding = codes "a binding"
file_name file.Dump = codes "a dump"

-- what helps where it is given in place of another
abbrev pub file_help : FileKind → List ℕ
file_help file.Empty = codes "look whether what was to write it did"
file_help file.Fst = codes "`fst2vcd bus.fst > bus.vcd`, which comes with GTKWave, makes a plain dump of it"
file_help file.Gzip = codes "`zcat bus.vcd.gz > bus.vcd` makes a plain dump of it"
file_help file.Xz = codes "`xzcat bus.vcd.xz > bus.vcd` makes a plain dump of it"
file_help file.Zstd = codes "`zstdcat bus.vcd.zst > bus.vcd` makes a plain dump of it"
file_help file.Bzip2 = codes "`bzcat bus.vcd.bz2 > bus.vcd` makes a plain dump of it"
file_help file.MarkedUtf8 = codes "`tail -c +4 marked.vcd > bus.vcd` takes the mark off"
file_help file.MarkedUtf16 = codes "`iconv -f UTF-16 -t UTF-8 wide.vcd > bus.vcd` makes it plain"
file_help file.LittleUtf16 = codes "`iconv -f UTF-16LE -t UTF-8 wide.vcd > bus.vcd` makes it plain"
file_help file.BigUtf16 = codes "`iconv -f UTF-16BE -t UTF-8 wide.vcd > bus.vcd` makes it plain"
file_help file.Listing = codes "give the binding first, then the dump, and then the listing"
file_help file.Binding = codes "give the binding first and then the dump"
file_help file.Dump = codes "give the binding first and then the dump"
