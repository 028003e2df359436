-- Of an entry without an own value the parent decides, and the file where there is none.
use Rattle.std.proofs.Common.{◌≡◌, ◌∙◌, Some, None, ap, sym, arith}
use Rattle.std.specs.Prelude.{codes}
use Rattle.std.specs.Option.{option_or, unwrap_or}
use Rattle.org_base.specs.Properties.{value_in}
use Rattle.org_inherit.proofs.LineageLemmas.{value_here, category_above, category_in}
use Rattle.org_inherit.specs.Category.{category_under}
use Rattle.org_inherit.specs.Values.{first_of, own_value}
use Rattle.org_outline.proofs.ByPlace.{table_length}
use Rattle.org_outline.proofs.Parents.{behind_parent}
use Rattle.org_outline.specs.Levels.{levels}
use Rattle.org_outline.specs.Places.{behind}
use Rattle.org_outline.specs.Tree.{parent, ancestors, up_from}
use Rattle.org_inherit.proofs.categories.Categories.next.Goals as goal

pub get-requires : goal.get-requires
get-requires c =
    let n = table_length (category_under c.args.outline.now c.args.file_category.now) c.args.self.now c.args.place c.requires.before in
    let p = behind_parent (levels c.args.outline.now) c.args.place in
    let q = ap behind (sym c.parent.ensures.value ∙ c.in-Some-parent.is) in
    omega arith

pub returns-in-Some : goal.returns-in-Some
returns-in-Some c =
    let es = c.args.outline.now in
    let file = c.args.file_category.now in
    let i = c.args.place in
    let name = codes "CATEGORY" in
    let own : own_value es name i ≡ Some c.in-Some.own.now =
    value_here es name i c.entry.result.now c.requires.within ∙ ap (λ e. value_in e.details.drawer name) (sym c.entry.ensures.value) ∙ sym c.in-Some.ensures.value in
    record { value = sym (ap (λ v. unwrap_or (option_or v (first_of (own_value es name) (ancestors (levels es) i))) file) own) }

pub returns-in-Some-parent : goal.returns-in-Some-parent
returns-in-Some-parent c =
    let es = c.args.outline.now in
    let file = c.args.file_category.now in
    let i = c.args.place in
    let p = c.in-Some-parent.parent in
    let name = codes "CATEGORY" in
    let own : own_value es name i ≡ None =
    value_here es name i c.entry.result.now c.requires.within ∙ ap (λ e. value_in e.details.drawer name) (sym c.entry.ensures.value) ∙ sym c.in_default.ensures.value in
    let above : parent (levels es) i ≡ Some p = sym c.parent.ensures.value ∙ c.in-Some-parent.is in
    let q = ap behind above in
    let b = behind_parent (levels es) i in
    record {
      value = category_in es file c.args.self.now i p c.get.result.now c.requires.before (omega arith) c.get.ensures.value
          ∙ sym (category_above es file i own ∙ ap (λ v. unwrap_or (first_of (own_value es name) (up_from (levels es) v)) file) above);
    }

pub returns-in-None : goal.returns-in-None
returns-in-None c =
    let es = c.args.outline.now in
    let file = c.args.file_category.now in
    let i = c.args.place in
    let name = codes "CATEGORY" in
    let own : own_value es name i ≡ None =
    value_here es name i c.entry.result.now c.requires.within ∙ ap (λ e. value_in e.details.drawer name) (sym c.entry.ensures.value) ∙ sym c.in_default.ensures.value in
    let above : parent (levels es) i ≡ None = sym c.parent.ensures.value ∙ c.in-None.is in
    record { value = sym (category_above es file i own ∙ ap (λ v. unwrap_or (first_of (own_value es name) (up_from (levels es) v)) file) above) }
