-- White space in front of a line is text.
use Rattle.std.proofs.Common.{◌≡◌, ◌<◌, ℕ, zero, suc, ◌+◌, inl, inr, true, List, [], ◌∷◌, get_or, take, sym, subst, arith}
use Rattle.std.specs.List.{prefix_len}
use Rattle.std.specs.Str.{IsUtf8}
use Rattle.std.proofs.lemmas.Bool.{cases_Bool}
use Rattle.std.proofs.lemmas.Bool.Decides.{nat_tests}
use Rattle.std.proofs.lemmas.Str.{IsUtf8-from_ascii}
use Rattle.org_amend.specs.Begun.{indent_of}
use Rattle.org_base.specs.Words.{is_space}

first_is_ascii : (b : ℕ) (rest : List ℕ) (i : ℕ) → is_space b ≡ true → ((k : ℕ) → get_or rest k 0 < 128) → get_or (b ∷ rest) i 0 < 128
first_is_ascii b rest zero space more = grind (arith, nat_tests)
first_is_ascii b rest (suc i) space more = more i

indent_is_ascii : (line : List ℕ) (i : ℕ) → get_or (indent_of line) i 0 < 128
indent_is_ascii [] i = omega arith
indent_is_ascii (b ∷ bs) i = elim (cases_Bool (is_space b)) [
  | inl space ↦
      let one : 1 + prefix_len is_space bs ≡ suc (prefix_len is_space bs) = omega arith in
      let more = first_is_ascii b (indent_of bs) i space (λ k. indent_is_ascii bs k) in
      rw space (subst (λ n. get_or (take n (b ∷ bs)) i 0 < 128) (sym one) more)
  | inr letter ↦ rw letter (omega arith)
]

pub indent_is_text : (line : List ℕ) → IsUtf8 (indent_of line)
indent_is_text line = IsUtf8-from_ascii (indent_of line) (λ i. indent_is_ascii line i)
