-- Names: when two are equal, and which record has one.
use Rattle.std.specs.Prelude.{ℕ, Bool, List, take, drop}
use Rattle.std.specs.Str.{bytes_eq}
use Rattle.syntax.specs.declared.record.Name.{Name}

-- two names are equal when their bytes are
abbrev pub same_name : List ℕ → List ℕ → Bool
same_name a b = bytes_eq a b

-- the bytes of a name that is kept by its place and length
abbrev pub name_in : List ℕ → Name → List ℕ
name_in text n = take n.length (drop n.place text)
