-- At a separator the open piece ends; another byte belongs to it. At the end what is open is a piece.
use Rattle.std.proofs.Common.{◌≡◌, ◌++◌, length, take, drop, ◌+◌, ◌-◌, ap, sym, ◌∙◌, arith}
use Rattle.org_settings.specs.Pieces.{pieces, piece}
use Rattle.org_settings.proofs.PieceLemmas.{are_letters, cut_at, more_letters, piece_last, no_letters, all_taken}
use Rattle.org_settings.proofs.RefLemmas.{texts}
use Rattle.org_settings.proofs.pieces.pieces.Goals as goal
use Rattle.org_settings.proofs.pieces.pieces.Goals.{then-is_between+in_ok-push_piece, else-is_between}

pub loop-i-preserved : goal.loop-i-preserved
loop-i-preserved c =
    let also = c.args.also in
    let t = c.args.text.now in
    let i = c.loop-i.i in
    let start = c.loop-i.start in
    let done = texts c.loop-i.found.items in
    elim c.if-is_between.branch [
      | then-is_between+in_ok-push_piece w ↦
          let found : texts c.if-is_between.found.items ≡ done ++ piece (take (i - start) (drop start t)) = ap (λ v. texts v.items) w.found-is ∙ w.in_ok-push_piece.ensures.ok in
          let cut = cut_at also t start i c.loop-i.invariant.short c.loop-i-test.true c.loop-i.invariant.letters (sym c.is_between.ensures.value ∙ w.if-is_between.true)
          (pieces also t) done (texts c.if-is_between.found.items) found c.loop-i.invariant.all in
          record {
            short = omega arith;
            letters = ap (λ n. are_letters also (take (i + 1 - n) (drop n t))) w.start-is ∙ no_letters also (i + 1) (drop (i + 1) t);
            all = ap (λ n. texts c.if-is_between.found.items ++ pieces also (drop n t)) w.start-is ∙ cut;
          }
      | else-is_between w ↦
          record {
            short = omega arith;
            letters = ap (λ n. are_letters also (take (i + 1 - n) (drop n t))) w.start-is
                ∙ more_letters also t start i c.loop-i.invariant.short c.loop-i-test.true c.loop-i.invariant.letters (sym c.is_between.ensures.value ∙ w.if-is_between.false);
            all = ap (λ n. texts c.if-is_between.found.items ++ pieces also (drop n t)) w.start-is ∙ ap (λ v. texts v.items ++ pieces also (drop start t)) w.found-is ∙ c.loop-i.invariant.all;
          }
    ]

pub returns : goal.returns
returns c =
    record {
      value =
          let also = c.args.also in
          let t = c.args.text.now in
          let i = c.loop-i.i in
          let start = c.loop-i.start in
          let last : take (i - start) (drop start t) ≡ drop start t = all_taken t start i c.loop-i-test.false in
          let whole : take (length t - start) (drop start t) ≡ drop start t = all_taken t start (length t) (omega arith) in
          c.in_ok-push_piece-2.ensures.ok
          ∙ ap (λ p. texts c.loop-i.found.items ++ piece p) whole
          ∙ ap (λ q. texts c.loop-i.found.items ++ q) (sym (piece_last also (drop start t) (ap (are_letters also) (sym last) ∙ c.loop-i.invariant.letters)))
          ∙ c.loop-i.invariant.all;
    }
