-- Its length is within bounds.
use Rattle.std.proofs.Common.{◌≡◌, ◌∙◌, ◌≤◌, ℕ, Bool, refl, sym, arith, length}
use Rattle.std.specs.Prelude.{◌&&◌, nat_le}
use Rattle.std.proofs.lemmas.Bool.{le-leb}
use Rattle.org_ids.proofs.letters.is_id.Goals as goal

within : (n : ℕ) (b : Bool) → 4 ≤ n → n ≤ 12 → ((nat_le 4 n && nat_le n 12) && b) ≡ b
within n b low high = rw (le-leb 4 n low, le-leb n 12 high) refl

pub returns : goal.returns
returns c = record {
  value = c.are_letters.ensures.value ∙ sym (within (length c.args.word.now) _ (omega (arith, c.if-word-lt-FEWEST_LETTERS.false)) (omega (arith, c.if-word-gt-MOST_LETTERS.false)));
}
