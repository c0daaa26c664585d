-- How a save file for GTKWave begins.
use Rattle.std.specs.Prelude.{ℕ, ◌++◌, ◌∷◌, [], List, codes}

-- the first line of a save file, which marks the file as written by this program
abbrev pub save_file_first_line : List ℕ
save_file_first_line = codes "[*] written by vmecheck explain" ++ 10 ∷ []
