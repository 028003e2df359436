-- So many letters are enough, or one more may be.
use Rattle.std.proofs.Common.{◌≡◌, ◌∙◌, ◌+◌, ◌-◌, ◌*◌, ◌^◌, ◌<◌, ◌≤◌, ℕ, suc, true, false, refl, sym, ap, subst, add-one, arith}
use Rattle.std.specs.Prelude.{nat_le}
use Rattle.std.proofs.lemmas.Bool.{le-leb, lt-leb}
use Rattle.std.proofs.Math.Nat.{pow-suc}
use Rattle.org_ids.specs.Letters.{least_enough}
use Rattle.org_ids.proofs.letters.id_length.Goals as goal

left : (n : ℕ) → n < 12 → 12 - n ≡ suc (12 - (n + 1))
left n h = omega (arith, h)

here : (wanted n : ℕ) → n < 12 → nat_le wanted (32 ^ n) ≡ true → least_enough wanted n (12 - n) ≡ n
here wanted n h is = ap (least_enough wanted n) (left n h) ∙ rw is refl

past : (wanted n : ℕ) → n < 12 → nat_le wanted (32 ^ n) ≡ false → least_enough wanted n (12 - n) ≡ least_enough wanted (n + 1) (12 - (n + 1))
past wanted n h is = ap (least_enough wanted n) (left n h) ∙ after is ∙ ap (λ k. least_enough wanted k (12 - (n + 1))) (sym (add-one n))
  where
    after : nat_le wanted (32 ^ n) ≡ false → least_enough wanted n (suc (12 - (n + 1))) ≡ least_enough wanted (suc n) (12 - (n + 1))
    after e = rw e refl

next : (n : ℕ) → 32 ^ n * 32 ≡ 32 ^ (n + 1)
next n = sym (pow-suc 32 n) ∙ ap (λ k. 32 ^ k) (sym (add-one n))

pub returns-then-wanted-enough : goal.returns-then-wanted-enough
returns-then-wanted-enough c =
    let wanted : ℕ = c.from.result * c.from-2.result in
    let enough : wanted ≤ 32 ^ c.loop-length.length = subst (λ n. wanted ≤ n) c.loop-length.invariant.enough c.if-wanted-enough.true in
    record { value = sym (here wanted c.loop-length.length c.loop-length-test.true (le-leb wanted (32 ^ c.loop-length.length) enough)) ∙ c.loop-length.invariant.least }

pub loop-length-preserved : goal.loop-length-preserved
loop-length-preserved c =
    let wanted : ℕ = c.from.result * c.from-2.result in
    let more : 32 ^ c.loop-length.length < wanted = subst (λ n. n < wanted) c.loop-length.invariant.enough c.if-wanted-enough.false in
    record {
      enough = ap (λ n. n * 32) c.loop-length.invariant.enough ∙ next c.loop-length.length;
      least = sym (past wanted c.loop-length.length c.loop-length-test.true (lt-leb wanted (32 ^ c.loop-length.length) more)) ∙ c.loop-length.invariant.least;
    }
