use Rattle.std.proofs.Common.{◌≡◌, ◌++◌, ℕ, List, rules, subst}
use Rattle.std.specs.Prelude.{codes}
use Rattle.org_inherit.specs.Category.{category}
use Rattle.org_client.specs.HeadingMembers.{head_members_of, keyword_members_of}
use Rattle.org_client.specs.Members.{number_member_of, text_member_of}
use Rattle.org_client.proofs.PutLemmas.{puts_both, puts_three}
use Rattle.org_client.proofs.row_members.put_heading.Goals as goal

pub returns : goal.returns
returns c =
    let old = c.args.to.now in
    let heading = c.args.heading.now in
    let named = text_member_of old.only (codes "category") (category heading.inherit.now heading.place) in
    let level_is : c.from.result ≡ heading.head.now.level = search rules in
    let category_put = subst (λ (t : List ℕ). c.text.new.self ≡ record { only = old.only; bytes = old.bytes ++ text_member_of old.only (codes "category") t }) c.category.ensures.value c.in_ok-text.ensures.ok in
    let level_put = subst (λ (n : ℕ). c.number.new.self ≡ record { only = c.text.new.self.only; bytes = c.text.new.self.bytes ++ number_member_of c.text.new.self.only (codes "level") n }) level_is c.in_ok-number.ensures.ok in
    let both = puts_both old c.text.new.self c.number.new.self named (λ only. number_member_of only (codes "level") heading.head.now.level) category_put level_put in
    record {
      ok = puts_three c.put_head.result old c.number.new.self c.put_keyword.new.to c.put_head.new.to (named ++ number_member_of old.only (codes "level") heading.head.now.level) (λ only. keyword_members_of only heading) (λ only. head_members_of only heading)
          both c.in_ok-put_keyword.ensures.ok c.put_head.ensures.ok;
    }
