-- The line of one keyword more is what stands before it, and its word.
use Rattle.std.proofs.Common.{◌≡◌, ◌<◌, ◌++◌, ◌+◌, ◌∙◌, [], ap, append_assoc, arith, drop, false, length, sym}
use Rattle.std.specs.Prelude.{Some, get_or}
use Rattle.std.proofs.lemmas.List.{at_drop_more}
use Rattle.org_settings.specs.Keywords.{Keyword}
use Rattle.org_engine.specs.KeywordLines.{gap_before, keyword_lines, kind_of}
use Rattle.org_engine.specs.declared.keywords.Kind.{Kind}
use Rattle.org_engine.proofs.keywords.keyword_lines.Goals as goal

pub loop-place-preserved : goal.loop-place-preserved
loop-place-preserved c =
    let ks = c.args.settings.now.keywords in
    let i = c.loop-place.place in
    let none : Keyword = record { word = []; done = false; first = 0 } in
    let k = get_or ks i none in
    let within : i < length ks = omega (arith, c.loop-place-test.true, c.keyword_count-place-end.ensures.value) in
    let next = at_drop_more (keyword_lines c.loop-place.last) ks i none within in
    let before = gap_before c.loop-place.last (kind_of k) in
    let rest = keyword_lines (Some (kind_of k)) (drop (i + 1) ks) in
    let kind : ◌≡◌ {A = Kind} (record { is_done = c.is_done.result; first = c.first_of_sequence.result }) (kind_of k) = λ j. record { is_done = c.is_done.ensures.value j; first = c.first_of_sequence.ensures.value j } in
    let grown : c.extend_from_slice-in-loop-place.new.self.items ≡ c.loop-place.out.items ++ before ++ k.word =
    c.in_ok-extend_from_slice-2.ensures.items ∙ ap (λ xs. xs ++ c.keyword_word.result.now) (c.in_ok-extend_from_slice.ensures.items ∙ ap (λ xs. c.loop-place.out.items ++ xs) (c.gap_before.ensures.value ∙ ap (gap_before c.loop-place.last) kind)) ∙ ap (λ xs. c.loop-place.out.items ++ before ++ xs) c.keyword_word.ensures.value in
    let same = ap (λ kind. c.extend_from_slice-in-loop-place.new.self.items ++ keyword_lines (Some kind) (drop (i + 1) ks)) kind in
    record {
      all = same ∙ ap (λ xs. xs ++ rest) grown ∙ append_assoc (c.loop-place.out.items ++ before) k.word rest ∙ append_assoc c.loop-place.out.items before (k.word ++ rest)
          ∙ ap (λ xs. c.loop-place.out.items ++ xs) (sym next) ∙ c.loop-place.invariant.all;
    }
