-- The list is made in three steps: the front, the new entries, the back.
use Rattle.std.proofs.Common.{◌++◌, map, take, drop, ap, ◌∙◌}
use Rattle.std.proofs.lemmas.List.{take_rest}
use Rattle.org_outline.proofs.ByPlace.{three_steps}
use Rattle.org_outline.proofs.body.Body.with_range.Goals as goal

pub returns : goal.returns
returns c =
    let front = c.in_ok-append.ensures.ok ∙ ap (λ v. map (λ e. e.value) c.new-list.result.items ++ map (λ e. e.value) (take c.args.range.start v)) c.deref.ensures.value in
    let back = c.in_ok-append-3.ensures.ok ∙ ap (λ v. map (λ e. e.value) c.append-2.new.list.items ++ map (λ e. e.value) v) (take_rest c.deref-2.result.now c.args.range.end ∙ ap (drop c.args.range.end) c.deref-2.ensures.value) in
    let e = three_steps (λ e. e.value) c.self.inside.list.items c.args.range.start c.args.range.end c.new-list.result.items c.append.new.list.items c.append-2.new.list.items c.append-3.new.list.items
    c.args.self.now (map (λ e. e.value) c.args.entries.now) c.self.view_is c.new-list.ensures.items front c.in_ok-append-2.ensures.ok back in
    record { value = c.in_ok-new.ensures.value ∙ e }
