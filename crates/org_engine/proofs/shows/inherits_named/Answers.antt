use Rattle.std.proofs.Common.{◌≡◌, ◌∙◌, ◌<◌, ◌≤◌, ◌++◌, ◌∷◌, [], ap, arith, false, length, subst, sym, true}
use Rattle.std.specs.Option.{option_map}
use Rattle.org_store.specs.Outline.{outline_of, scope_in, scope_of}
use Rattle.org_text.specs.Replace.{max_bytes}
use Rattle.org_engine.specs.Views.{is_wanted}
use Rattle.org_engine.specs.World.{FileView}
use Rattle.org_engine.proofs.ListLemmas.{scopes_there}
use Rattle.org_engine.proofs.OutlineLemmas.{made_of, there_is}
use Rattle.org_engine.proofs.ShownLemmas.{named_all, named_more, named_read, short_more, there_within, unwanted, wanted_one}
use Rattle.org_engine.proofs.shows.inherits_named.Goals as goal

pub loop-place-preserved-then-not-is_wanted : goal.loop-place-preserved-then-not-is_wanted
loop-place-preserved-then-not-is_wanted g c =
    let world = c.args.world.now.world in
    let files = world.files in
    let place = c.loop-place.place in
    let scope = λ (f : FileView). scope_of world.inherited f.name f.text in
    let within : place < length files = omega (arith, c.loop-place-test.true, c.count-place-end.ensures.value) in
    let found = there_is files place within in
    let file : FileView = found.0 in
    let both = c.file.ensures.value file found.1 in
    let wanted = option_map (λ name. name.now) c.args.file in
    let isnt : is_wanted wanted file.name ≡ false = ap (is_wanted wanted) (sym both.0) ∙ sym c.is_wanted.ensures.value ∙ c.if-not-is_wanted.true in
    record {
      named = named_more wanted scope files place file _ _ _ within found.1 (unwanted wanted (scope file) c.loop-place.inherits isnt) c.loop-place.invariant.named;
      short = short_more files place file found.1 (subst (λ text. length text ≤ max_bytes) both.1 c.file.ensures.short) c.loop-place.invariant.short;
    }

pub loop-place-preserved : goal.loop-place-preserved
loop-place-preserved g c =
    let world = c.args.world.now.world in
    let files = world.files in
    let place = c.loop-place.place in
    let scope = λ (f : FileView). scope_of world.inherited f.name f.text in
    let within : place < length files = omega (arith, c.loop-place-test.true, c.count-place-end.ensures.value) in
    let found = there_is files place within in
    let file : FileView = found.0 in
    let both = c.file.ensures.value file found.1 in
    let outline = made_of (λ (f : FileView). outline_of f.text) files c.args.outlines.now place file c.index-outlines-place.result c.requires.read found.1 c.index-outlines-place.is in
    let is : c.in_ok-inherit.inherit ≡ scope file = c.in_ok-inherit.ensures.value ∙ (λ i. scope_in (outline i) (both.0 i) (c.inherited_names.ensures.value i)) in
    let wanted = option_map (λ name. name.now) c.args.file in
    let wants : is_wanted wanted file.name ≡ true = ap (is_wanted wanted) (sym both.0) ∙ sym c.is_wanted.ensures.value ∙ c.if-not-is_wanted.false in
    record {
      named = named_more wanted scope files place file _ _ _ within found.1
          (c.in_ok-push.ensures.ok ∙ ap (λ s. c.loop-place.inherits ++ s ∷ []) is ∙ wanted_one wanted (scope file) c.loop-place.inherits wants) c.loop-place.invariant.named;
      short = short_more files place file found.1 (subst (λ text. length text ≤ max_bytes) both.1 c.file.ensures.short) c.loop-place.invariant.short;
    }

pub returns-clause-value : goal.returns-clause-value
returns-clause-value g c =
    let world = c.args.world.now.world in
    let all : length world.files ≤ c.loop-place.place = omega (arith, c.loop-place-test.false, c.count-place-end.ensures.value) in
    named_all (option_map (λ name. name.now) c.args.file) (λ (f : FileView). scope_of world.inherited f.name f.text) world.files c.loop-place.place _ _ all c.loop-place.invariant.named
    ∙ scopes_there (option_map (λ name. name.now) c.args.file) world

pub returns-clause-read : goal.returns-clause-read
returns-clause-read g c =
    let world = c.args.world.now.world in
    let files = world.files in
    let all : length files ≤ c.loop-place.place = omega (arith, c.loop-place-test.false, c.count-place-end.ensures.value) in
    named_read (option_map (λ name. name.now) c.args.file) world c.loop-place.inherits
    (λ i file there. c.loop-place.invariant.short i file (omega (arith, there_within files i file there, all)) there)
    (omega (arith, c.count-place-end.ensures.at_most, c.count-place-end.ensures.value))
    (named_all (option_map (λ name. name.now) c.args.file) (λ (f : FileView). scope_of world.inherited f.name f.text) files c.loop-place.place _ _ all c.loop-place.invariant.named)
