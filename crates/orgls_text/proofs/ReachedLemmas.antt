-- A text that is read on.
use Rattle.std.proofs.Common.{◌≡◌, ℕ, ◌+◌, ◌-◌, ◌*◌, ◌≤◌, List, ◌++◌, length, take, drop, inl, inr, sym, ap, ◌∙◌, arith}
use Rattle.std.specs.Prelude.{nat_lt}
use Rattle.std.proofs.lemmas.Bool.{cases_Bool}
use Rattle.std.proofs.lemmas.List.{drop-take, length-take, take-append-drop, take-take}
use Rattle.orgls_text.specs.Positions.{cursor_behind, start}
use Rattle.orgls_text.specs.Reached.{IsReached, before}
use Rattle.orgls_text.proofs.CursorLemmas.{behind_append, behind_none, few_behind}
use Rattle.orgls_text.specs.declared.cursor.Cursor.{Cursor}
use Rattle.orgls_text.specs.declared.position.PositionEncoding.{PositionEncoding}
use Rattle.orgls_text.specs.declared.reached.Reached.{Reached}

-- a front of a text is a shorter one and what follows
front_on : (t : List ℕ) (at end : ℕ) → at ≤ end → take at t ++ take (end - at) (drop at t) ≡ take end t
front_on t at end le =
    let sum : at + (end - at) ≡ end = omega arith in
    let first : take at (take end t) ≡ take at t = take-take at end t le in
    let second : drop at (take end t) ≡ take (end - at) (drop at t) =
    ap (λ n. drop at (take n t)) (sym sum) ∙ drop-take at (end - at) t in
    ap (λ (x : List ℕ). x ++ take (end - at) (drop at t)) (sym first)
    ∙ ap (λ (x : List ℕ). take at (take end t) ++ x) (sym second)
    ∙ take-append-drop at (take end t)

pub behind_on : (e : PositionEncoding) (t : List ℕ) (from : Reached) (end : ℕ) → IsReached e t from → from.at ≤ end →
    cursor_behind e from.cursor (take (end - from.at) (drop from.at t)) ≡ cursor_behind e start (take end t)
behind_on e t from end is le =
    ap (λ c. cursor_behind e c (take (end - from.at) (drop from.at t))) is.behind
    ∙ sym (behind_append e start (take from.at t) (take (end - from.at) (drop from.at t)))
    ∙ ap (cursor_behind e start) (front_on t from.at end le)

-- what is reached has no more lines than bytes, and no more than twice as many units
pub few_reached : (e : PositionEncoding) (t : List ℕ) (from : Reached) → IsReached e t from →
    (from.cursor.position.line ≤ from.at) × (from.cursor.position.character ≤ 2 * from.at)
few_reached e t from is =
    let few = few_behind e start (take from.at t) in
    let len : length (take from.at t) ≤ from.at = simp length-take (omega arith) in
    let line : from.cursor.position.line ≡ (cursor_behind e start (take from.at t)).position.line = ap (λ (c : Cursor). c.position.line) is.behind in
    let character : from.cursor.position.character ≡ (cursor_behind e start (take from.at t)).position.character = ap (λ (c : Cursor). c.position.character) is.behind in
    (omega (arith, few.0), omega (arith, few.1))

pub front_reached : (e : PositionEncoding) (t : List ℕ) → IsReached e t (record { at = 0; cursor = start })
front_reached e t = record { within = omega arith; behind = sym (behind_none e start) }

pub before_reached : (e : PositionEncoding) (t : List ℕ) (r : Reached) (end : ℕ) → IsReached e t r → IsReached e t (before r end)
before_reached e t r end is = elim (cases_Bool (nat_lt end r.at)) [
  | inl past ↦ rw past (front_reached e t)
  | inr here ↦ rw here is
]
