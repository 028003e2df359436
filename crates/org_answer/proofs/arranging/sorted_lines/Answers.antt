-- A row waits, or those that waited are put down before a line that is none.
use Rattle.std.proofs.Common.{◌≡◌, ◌∙◌, ◌+◌, ◌++◌, ◌∷◌, [], List, map, take, ap, ap₂, subst, sym, arith}
use Rattle.std.specs.Prelude.{Vec}
use Rattle.std.specs.Global.{Global}
use Rattle.std.specs.List.Sorted.{IsPermutation}
use Rattle.std.proofs.lemmas.List.{take_all, take_more}
use Rattle.org_answer.specs.Arranged.{AddsInOrder}
use Rattle.org_answer.proofs.ArrangedLemmas.{line_more, put_down, row_more}
use Rattle.org_answer.proofs.arranging.sorted_lines.Goals as goal
use Rattle.org_answer.proofs.arranging.sorted_lines.Goals.{in-Row+in_ok-push-in-Row, in-Day+in_ok-push_sorted-in-Day+in_ok-push-in-Day}
use Rattle.org_layout.specs.declared.shown.Line.{Line}
use Rattle.org_layout.specs.declared.shown.Line.TheVariants.{Row}
use Rattle.org_layout.specs.declared.shown.ShownRow.{ShownRow}

pub loop-line-preserved : goal.loop-line-preserved
loop-line-preserved c =
    let lines : List Line = c.args.lines.now in
    let i = c.loop-line.line-index in
    let line : Line = c.line-item.result in
    let out : List Line = c.loop-line.out.items in
    let rows : List ShownRow = c.loop-line.rows.items in
    let same : IsPermutation (take i lines) (out ++ map Row rows) = c.loop-line.invariant in
    let more : take (i + 1) lines ≡ take i lines ++ line ∷ [] = take_more lines i line (omega arith) ∙ ap (λ (x : Line). take i lines ++ x ∷ []) (sym c.line-item.is) in
    subst (λ (t : List Line). IsPermutation t (c.match-line.out.items ++ map Row c.match-line.rows.items)) (sym more)
    (elim c.match-line.branch [
      | in-Row+in_ok-push-in-Row w ↦
          let shown : ShownRow = w.in-Row.shown in
          let kept : c.match-line.out.items ≡ out = ap (λ (v : Vec Line Global). v.items) w.out-is in
          let waiting : c.match-line.rows.items ≡ rows ++ shown ∷ [] = ap (λ (v : Vec ShownRow Global). v.items) w.rows-is ∙ w.in_ok-push-in-Row.ensures.items in
          let right : out ++ map Row (rows ++ shown ∷ []) ≡ c.match-line.out.items ++ map Row c.match-line.rows.items = ap₂ (λ (o : List Line) (r : List ShownRow). o ++ map Row r) (sym kept) (sym waiting) in
          subst (λ (x : Line). IsPermutation (take i lines ++ x ∷ []) (c.match-line.out.items ++ map Row c.match-line.rows.items)) (sym w.in-Row.is)
          (subst (IsPermutation (take i lines ++ Row shown ∷ [])) right (row_more (take i lines) out rows shown same))
      | in-Day+in_ok-push_sorted-in-Day+in_ok-push-in-Day w ↦
          let new : List Line = w.push_sorted.new.out.items in
          let adds : AddsInOrder out new rows = subst (AddsInOrder out new) w.as_slice.ensures.value w.in_ok-push_sorted-in-Day.ensures.same in
          let down : IsPermutation (take i lines) new = put_down (take i lines) out new rows same adds in
          let put : c.match-line.out.items ≡ new ++ line ∷ [] = ap (λ (v : Vec Line Global). v.items) w.out-is ∙ w.in_ok-push-in-Day.ensures.items in
          let none : c.match-line.rows.items ≡ [] = ap (λ (v : Vec ShownRow Global). v.items) w.rows-is ∙ w.clear.ensures.items in
          subst (IsPermutation (take i lines ++ line ∷ [])) (ap₂ (λ (o : List Line) (r : List ShownRow). o ++ map Row r) (sym put) (sym none))
          (line_more (take i lines) new line down)
    ])

pub returns : goal.returns
returns c =
    let lines : List Line = c.args.lines.now in
    let out : List Line = c.loop-line.out.items in
    let new : List Line = c.push_sorted-2.new.out.items in
    let rows : List ShownRow = c.loop-line.rows.items in
    let all : IsPermutation lines (out ++ map Row rows) = subst (λ (t : List Line). IsPermutation t (out ++ map Row rows)) (take_all c.loop-line.line-index lines (omega arith)) c.loop-line.invariant in
    record { same = put_down lines out new rows all (subst (AddsInOrder out new) c.as_slice-2.ensures.value c.in_ok-push_sorted.ensures.same) }
