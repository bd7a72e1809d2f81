-- the lines of the demo
use Rattle.std.specs.Prelude.{ℕ, ◌+◌, ◌*◌, ◌/◌, ◌%◌, List, ◌++◌, codes, decimal}

-- the session that puts a row: four take turns
abbrev pub session_of : ℕ → List ℕ
session_of row = codes "d" ++ decimal (row % 4)

-- the three lower bytes of a number, as an address of network 10
abbrev pub address_text : ℕ → List ℕ
address_text row = codes "10." ++ decimal (row / 65536) ++ codes "." ++ decimal (row / 256 % 256) ++ codes "." ++ decimal (row % 256)

-- Row i has the key i; a value that a seed and the key scatter below 1000; the range of ten numbers from the key on; and an address made of it.
abbrev pub row_text : ℕ → ℕ → List ℕ
row_text seed row =
    decimal row ++ codes " " ++ decimal ((seed + 37 * row) % 1000) ++ codes " [" ++ decimal row ++ codes "," ++ decimal (row + 10) ++ codes ") " ++ address_text row

abbrev pub insert_line : ℕ → ℕ → List ℕ
insert_line seed row = session_of row ++ codes " insert d " ++ row_text seed row

-- what a session's name and one of these words make
abbrev pub line : List ℕ → List ℕ → List ℕ
line session words = session ++ codes " " ++ words

-- the ten keys from the middle of the rows on
abbrev pub middle_conditions : ℕ → List ℕ
middle_conditions rows = codes "k >= " ++ decimal (rows / 2) ++ codes " and k < " ++ decimal (rows / 2 + 10)

abbrev pub select_line : List ℕ → List ℕ
select_line conditions = codes "d0 select d where " ++ conditions
