-- How the automaton runs over characters.
use Rattle.std.specs.Prelude.{chars, encode_utf8}
use Rattle.std.specs.Str.{IsUtf8}
use Rattle.std.specs.Char.{len_utf8}
use Rattle.std.proofs.lemmas.Str.{chars_past_char, length-encode}
use Rattle.std.proofs.Common.{length, length-append, ◌≡◌, ℕ, ◌+◌, List, [], ◌∷◌, ◌++◌, Option, None, Some, refl}
use Rattle.org_expression.specs.declared.state.State.{State}
use Rattle.org_expression.specs.Automaton.{step, step_at, run, reach}

-- with no state there is none later
pub run_none : (cs : List ℕ) → run None cs ≡ None
run_none [] = refl
run_none (c ∷ cs) = run_none cs

pub run-append : (o : Option State) (xs ys : List ℕ) → run o (xs ++ ys) ≡ run (run o xs) ys
run-append o [] ys = refl
run-append o (x ∷ xs) ys = run-append (step_at o x) xs ys

-- the characters that are left, where one more is taken
pub run_past : (s : State) (bs rest : List ℕ) (c : ℕ) (o : Option State) → IsUtf8 bs → bs ≡ encode_utf8 c ++ rest → o ≡ step s c →
    run (Some s) (chars bs) ≡ run o (chars rest)
run_past s bs rest c o utf8 parts taken = rw (chars_past_char bs rest c utf8 parts, taken) refl

pub reach_past : (s t : State) (bs rest : List ℕ) (c : ℕ) → IsUtf8 bs → bs ≡ encode_utf8 c ++ rest → Some t ≡ step s c →
    reach (Some s) (chars bs) ≡ len_utf8 c + reach (Some t) (chars rest)
reach_past s t bs rest c utf8 parts taken = rw (chars_past_char bs rest c utf8 parts, ← taken) refl

pub reach_stuck : (s : State) (bs rest : List ℕ) (c : ℕ) → IsUtf8 bs → bs ≡ encode_utf8 c ++ rest → None ≡ step s c →
    reach (Some s) (chars bs) ≡ 0
reach_stuck s bs rest c utf8 parts stuck = rw (chars_past_char bs rest c utf8 parts, ← stuck) refl

pub len_past : (bs rest : List ℕ) (c : ℕ) → bs ≡ encode_utf8 c ++ rest → length bs ≡ len_utf8 c + length rest
len_past bs rest c parts = rw (parts, length-append, length-encode) refl
