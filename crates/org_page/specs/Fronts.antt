-- With what pages begin.
use Rattle.std.specs.Prelude.{ℕ, Bool, List, codes, nat_eq}
use Rattle.std.specs.List.{starts_with}

-- with what each page begins, which no other file is likely to
abbrev pub front : List ℕ
front = codes "<!DOCTYPE html>\n<html lang=\"en\">\n<head>\n<meta charset=\"utf-8\">\n<meta name=\"generator\" content=\"orgq page\">\n"

-- a text begins as a page does
abbrev pub is_page : List ℕ → Bool
is_page text = starts_with nat_eq text front
