-- What is put is what a name has room for.
use Rattle.std.proofs.Common.{◌≡◌, ◌∙◌, ◌+◌, ◌-◌, ◌≤◌, ℕ, List, ◌++◌, length, take, sym, ap, arith}
use Rattle.std.specs.Prelude.{min}
use Rattle.std.proofs.Math.Seq.{take-append-add}
use Rattle.std.proofs.lemmas.List.{take-append-le, take_min}
use Rattle.org_ids.proofs.names.push_bounded.Goals as goal

within : (n : ℕ) (xs ys : List ℕ) → length xs ≤ n → take n (xs ++ ys) ≡ xs ++ take (min (n - length xs) (length ys)) ys
within n xs ys h =
    let e : n ≡ length xs + (n - length xs) = omega (arith, h) in
    ap (λ k. take k (xs ++ ys)) e ∙ take-append-add xs ys (n - length xs) ∙ ap (λ (z : List ℕ). xs ++ z) (sym (take_min (n - length xs) ys))

pub returns-then-len-ge-MOST_BYTES : goal.returns-then-len-ge-MOST_BYTES
returns-then-len-ge-MOST_BYTES c = record {
  ok = c.truncate.ensures.items ∙ sym (take-append-le 512 c.args.out.now.items c.args.bytes.now (omega (arith, c.len.ensures, c.if-len-ge-MOST_BYTES.true)));
}

pub returns : goal.returns
returns c =
    let out : List ℕ = c.args.out.now.items in
    let bytes : List ℕ = c.args.bytes.now in
    let n : c.min.result ≡ min (512 - length out) (length bytes) = omega (arith, c.min.ensures, c.len-room.ensures) in
    record {
      ok = c.in_ok-extend_from_slice.ensures.items
          ∙ ap (λ (x : List ℕ). out ++ x) (c.split_at.ensures.front ∙ ap (λ k. take k bytes) n)
          ∙ sym (within 512 out bytes (omega (arith, c.len.ensures, c.if-len-ge-MOST_BYTES.false)));
    }
