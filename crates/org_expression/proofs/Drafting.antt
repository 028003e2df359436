-- One step of the loop that reads an expression, and what it comes to.
use Rattle.std.specs.Prelude.{chars, encode_utf8}
use Rattle.std.specs.Str.{IsUtf8}
use Rattle.std.proofs.lemmas.Str.{chars_past_char, chars-nil}
use Rattle.std.proofs.Common.{◌≡◌, ℕ, List, [], ◌++◌, Option, None, Some, Bool, true, false, not, refl, sym, ap, ◌∙◌}
use Rattle.org_expression.specs.declared.state.State.{State}
use Rattle.org_expression.specs.Automaton.{step, run}
use Rattle.org_expression.specs.Grammar.{Expr, Reads}
use Rattle.org_expression.specs.Draft.{Draft, absorb, advance, finished, read_all}
use Rattle.org_expression.proofs.Run.{run_none}
use Rattle.org_expression.proofs.Drafts.{read_all-spell}

pub told_past : (s : State) (o : Option State) (d e : Draft) (bs rest : List ℕ) (c : ℕ) (r : Option Expr) → IsUtf8 bs → bs ≡ encode_utf8 c ++ rest →
    o ≡ step s c → e ≡ absorb s c d → finished (run (Some s) (chars bs)) (advance (Some s) d (chars bs)) ≡ r →
    finished (run o (chars rest)) (advance o e (chars rest)) ≡ r
told_past s o d e bs rest c r utf8 parts taken absorbed told =
    rw (taken, absorbed) (rw (chars_past_char bs rest c utf8 parts) at told)

pub told_none : (s : State) (d e : Draft) (bs rest : List ℕ) (c : ℕ) (r : Option Expr) → IsUtf8 bs → bs ≡ encode_utf8 c ++ rest →
    None ≡ step s c → e ≡ absorb s c d → finished (run (Some s) (chars bs)) (advance (Some s) d (chars bs)) ≡ r → None ≡ r
told_none s d e bs rest c r utf8 parts stuck absorbed told =
    ap (λ o. finished o (advance None e (chars rest))) (sym (run_none (chars rest)))
    ∙ told_past s None d e bs rest c r utf8 parts stuck absorbed told

pub told_end : (s : State) (d : Draft) (bs : List ℕ) (r : Option Expr) → bs ≡ [] → finished (run (Some s) (chars bs)) (advance (Some s) d (chars bs)) ≡ r →
    finished (Some s) d ≡ r
told_end s d bs r none told = rw (none, chars-nil) at told

-- where a text is an expression, it is what `read_all` gives
pub read_is : (cs : List ℕ) → (e : Expr) × Reads cs e → (e : Expr) × (read_all cs ≡ Some e) × Reads cs e
read_is cs (e, reads) = (e, ap read_all (sym reads.spelled) ∙ read_all-spell e reads.is_expr, reads)

some_is : {A : Type 0} (x y : A) → Some x ≡ Some y → x ≡ y
some_is x y e = cc

pub read_only : (cs : List ℕ) (w : Expr) → (e : Expr) × Reads cs e → Some w ≡ read_all cs → Reads cs w
read_only cs w some is =
    let r = read_is cs some in
    rw (some_is w r.0 (is ∙ r.1)) r.2

none_some : {A : Type 0} (x : A) → None ≡ Some x → ⊥
none_some x e = cc

pub not_none : (cs : List ℕ) → (e : Expr) × Reads cs e → None ≡ read_all cs → ⊥
not_none cs some is = let r = read_is cs some in none_some r.0 (is ∙ r.1)

pub not_not : (b : Bool) → not b ≡ false → b ≡ true
not_not true e = refl
not_not false e = absurd cc
