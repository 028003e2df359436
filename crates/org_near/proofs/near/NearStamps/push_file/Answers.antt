use Rattle.std.proofs.Common.{◌≡◌, ◌∙◌, ◌+◌, ◌++◌, ℕ, List, drop, get_or, sym, ap, append-nil}
use Rattle.std.specs.List.{flat_map}
use Rattle.std.proofs.lemmas.List.{drop_all, drop_more}
use Rattle.org_agenda.specs.declared.source.HeadingStamp.{HeadingStamp}
use Rattle.org_near.specs.Near.{asked_in}
use Rattle.org_near.proofs.FileLemmas.{among_places, file_near, heading_more, rise}
use Rattle.org_near.proofs.near.NearStamps.push_file.Goals as goal

pub returns : goal.returns
returns c =
    let scope = c.args.inherit.now in
    let file = c.args.file in
    let hs = c.args.places.now in
    let before = c.args.self.now.found.items in
    let f : ℕ → List HeadingStamp = asked_in c.args.asked.now scope file in
    let all = file_near c.args.asked.now scope file hs (rise hs c.requires.once) (λ j out. c.requires.all j (λ has. out (among_places j hs has))) in
    record {
      ok = sym (append-nil c.loop-heading.self.found.items)
          ∙ ap (λ (ks : List ℕ). c.loop-heading.self.found.items ++ flat_map f ks) (sym (drop_all c.loop-heading.heading-index hs c.loop-heading-test.false))
          ∙ c.loop-heading.invariant
          ∙ ap (λ (xs : List HeadingStamp). before ++ xs) all;
    }

pub loop-heading-preserved : goal.loop-heading-preserved
loop-heading-preserved c =
    let hs = c.args.places.now in
    let i = c.loop-heading.heading-index in
    heading_more (asked_in c.args.asked.now c.args.inherit.now c.args.file) c.loop-heading.self.found.items c.push_place.new.self.found.items _ (get_or hs i 0) (drop i hs) (drop (i + 1) hs)
    c.in_ok-push_place.ensures.ok (drop_more hs i 0 c.loop-heading-test.true) c.loop-heading.invariant
