-- The titles of sums.
use Rattle.std.specs.Prelude.{ℕ, List, [], ◌∷◌, String}
use Rattle.std.specs.List.{flat_map}
use Rattle.std.specs.String.{string_bytes}
use Rattle.org_page.specs.declared.clocked.Sum.{Sum}
use Rattle.org_page.specs.declared.clocked.SumOf.{SumOf}
use Rattle.org_page.specs.declared.clocked.SumOf.TheVariants.{All, File, Heading}

-- one title with its link
abbrev pub one_title : {A : Type 0} → String A → String A → List (List ℕ × List ℕ)
one_title words link = (string_bytes words, string_bytes link) ∷ []

-- a heading has a title; all files and a file have none
abbrev pub of_titles : SumOf → List (List ℕ × List ℕ)
of_titles All = []
of_titles (File name) = []
of_titles (Heading words link level) = one_title words link

abbrev pub sum_titles : Sum → List (List ℕ × List ℕ)
sum_titles sum = of_titles sum.of

abbrev pub sums_titles : List Sum → List (List ℕ × List ℕ)
sums_titles sums = flat_map sum_titles sums
