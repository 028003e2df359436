use Rattle.std.proofs.Common.{rules, ◌≡◌, ◌∙◌, length, refl, sym, subst}
use Rattle.std.specs.Prelude.{Some, slice_get}
use Rattle.std.proofs.lemmas.Option.{slice_get_read}
use Rattle.org_stamp_index.specs.Index.{AreKeptAlike, AreKeptAlikeIf}
use Rattle.org_stamp_index.specs.declared.index.StampIndex.{StampIndex}
use Rattle.org_stamp_index.proofs.AlikeLemmas.{set_alike, when_ok}
use Rattle.org_stamp_index.proofs.indexed_outline.IndexedOutline.index_with_entry.Goals as goal

pub returns-then-branch : goal.returns-then-branch
returns-then-branch c =
    let x = c.args.index.value in
    let before = c.entry-before.result.now in
    let there : slice_get c.args.self.now c.args.place ≡ Some before =
    slice_get_read c.args.self.now (length c.args.self.now) c.args.place before refl c.requires.within (search rules) in
    let own = c.as_ref-2.result.now in
    let told : AreKeptAlike own.profile own.settings.value before c.args.entry.now =
    when_ok c.keeps_alike.result (AreKeptAlikeIf own before c.args.entry.now) c.in_ok-ok.field-0 c.keeps_alike.ensures.alike (sym c.ok.ensures.value ∙ c.in_ok-ok.was) c.if-branch.true in
    let alike : AreKeptAlike x.profile x.settings.value before c.args.entry.now =
    subst (λ (y : StampIndex). AreKeptAlike y.profile y.settings.value before c.args.entry.now) c.as_ref-2.ensures told in
    record { value = set_alike x.settings.value c.args.self.now c.args.place before c.args.entry.now x c.requires.is there alike }
