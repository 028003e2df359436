-- What is put behind the way that is left.
use Rattle.std.proofs.Common.{◌≡◌, ◌∙◌, ℕ, List, [], ◌∷◌, ◌++◌, length, sym, ap, arith}
use Rattle.org_ids.specs.Names.{NamesView, OnWay, bounded, ends_from, lower, one_line}
use Rattle.org_ids.specs.Words.{plain_words}
use Rattle.org_ids.proofs.PushLemmas.{ends_pushed, way_pushed}
use Rattle.org_ids.proofs.WayLemmas.{way_bytes}
use Rattle.org_ids.proofs.names.Names.enter.Goals as goal

pub returns : goal.returns
returns c = record {
  ok = λ file way names e.
      let left : List OnWay = lower c.args.level way in
      let it : OnWay = record { level = c.args.level; words = plain_words c.args.title.now } in
      let there = c.self.view_is ∙ c.leave.ensures.value file way names e in
      let base : c.self.inside.base ≡ length (bounded (one_line file)) = ap (λ (v : NamesView). v.base) there in
      let bytes : c.self.inside.way.items ≡ bounded (way_bytes file left) = ap (λ (v : NamesView). v.way) there in
      let above : c.self.inside.above.items ≡ ends_from file [] left = ap (λ (v : NamesView). v.above) there in
      let put : c.self.inside.names ≡ names = ap (λ (v : NamesView). v.names) there in
      let first = c.in_ok-push_bounded.ensures.ok ∙ ap (λ (x : List ℕ). bounded (x ++ 10 ∷ 42 ∷ [])) bytes in
      let whole : c.push_words.new.out.items ≡ bounded (way_bytes file (left ++ it ∷ [])) =
      c.in_ok-push_words.ensures.ok ∙ ap (λ (x : List ℕ). bounded (x ++ plain_words c.args.title.now)) first ∙ way_pushed file left it in
      let end : c.len.result ≡ length (bounded (way_bytes file (left ++ it ∷ []))) =
      omega (arith, c.len.ensures, c.push_words.new.out.ok.0, ap (length {A = ℕ}) whole) in
      let ends : c.push.new.self.items ≡ ends_from file [] (left ++ it ∷ []) =
      c.in_ok-push.ensures.items
      ∙ (λ i. above i ++ record { level = c.args.level; end = end i } ∷ [])
      ∙ sym (ends_pushed file [] left it) in
      λ i. record { base = base i; way = whole i; above = ends i; names = put i };
}
