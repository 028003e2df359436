use Rattle.std.proofs.Common.{◌∙◌, ◌<◌, ◌≤◌, ℕ, List, arith, ap, length, subst, sym, take}
use Rattle.org_near.specs.Near.{HoldAskedIn}
use Rattle.org_index.specs.Ticks.{examined}
use Rattle.org_inherit.specs.Scope.{Scope}
use Rattle.org_agenda.specs.Days.{day_rows}
use Rattle.org_agenda.specs.Sources.{sources_of}
use Rattle.org_agenda.specs.declared.source.HeadingStamp.{HeadingStamp}
use Rattle.org_agenda.proofs.NearRowLemmas.{near_give_all}
use Rattle.org_stamp_index.specs.Near.{near_in}
use Rattle.org_near.specs.Stamps.{near_in_all}
use Rattle.org_stamp_index.specs.declared.near_query.NearQuery.{NearQuery}
use Rattle.org_near.proofs.FileLemmas.{near_file_more, near_files_whole}
use Rattle.org_stamp_index.proofs.PlaceLemmas.{examines_more, on_err}
use Rattle.org_near.proofs.StampLemmas.{count_more, count_whole, counted, hold_there, zip_at, zip_long}
use Rattle.org_near.proofs.stamps.DatedStampsStamps.near.Goals as goal

pub returns-in_err-places-clause-partial : goal.returns-in_err-places-clause-partial
returns-in_err-places-clause-partial c =
    on_err c.from_residual.result _
    (examines_more (near_in_all c.args.as_of.now c.args.from c.args.to (take c.loop-file.file c.args.self.now.files.now)) c.args.meter.now c.loop-file.meter c.near.new.meter c.loop-file.invariant.counts c.in_err-places.ensures.partial)

pub get-requires : goal.get-requires
get-requires c = omega (arith, c.loop-file-test.true, zip_long c.args.self.now.files.now c.args.self.now.inherits.now c.requires.stands.same)

pub push_file-requires-clause-all : goal.push_file-requires-clause-all
push_file-requires-clause-all c =
    let a : NearQuery = record { profile = c.args.as_of.now.profile; today = c.args.as_of.now.today; from = c.args.from; to = c.args.to } in
    let hold = hold_there a c.in_ok-places.places.items c.loop-file.file c.dated-item.result c.get.result.now
    (zip_at c.args.self.now.files.now c.args.self.now.inherits.now c.loop-file.file c.dated-item.result c.get.result.now c.requires.stands.same c.loop-file-test.true c.dated-item.is c.get.ensures.value) c.in_ok-places.ensures.value in
    subst (λ (hs : List ℕ). HoldAskedIn a hs c.loop-file.file c.get.result.now) (sym c.as_slice.ensures.value) hold

pub returns-in_err-push_file-clause-partial : goal.returns-in_err-push_file-clause-partial
returns-in_err-push_file-clause-partial c =
    let a : NearQuery = record { profile = c.args.as_of.now.profile; today = c.args.as_of.now.today; from = c.args.from; to = c.args.to } in
    let d = c.dated-item.result in
    on_err c.from_residual-in_err-push_file.result _
    (examines_more (near_in_all c.args.as_of.now c.args.from c.args.to (take c.loop-file.file c.args.self.now.files.now)) c.args.meter.now c.loop-file.meter c.near.new.meter c.loop-file.invariant.counts
    (near_in a d.settings d.entries, c.in_ok-places.ensures.counts))

pub loop-file-preserved : goal.loop-file-preserved
loop-file-preserved c =
    let a : NearQuery = record { profile = c.args.as_of.now.profile; today = c.args.as_of.now.today; from = c.args.from; to = c.args.to } in
    let files = c.args.self.now.files.now in
    let scopes : List Scope = c.args.self.now.inherits.now in
    let i = c.loop-file.file in
    let within : i < length scopes = omega (arith, c.loop-file-test.true, zip_long files scopes c.requires.stands.same) in
    record {
      found = near_file_more a scopes i c.get.result.now c.loop-file.near.found.items c.push_file.new.self.found.items (_) within c.get.ensures.value c.in_ok-push_file.ensures.ok c.loop-file.invariant.found;
      counts = count_more c.args.as_of.now c.args.from c.args.to files i c.dated-item.result c.args.meter.now c.loop-file.meter c.near.new.meter c.loop-file-test.true c.dated-item.is c.loop-file.invariant.counts c.in_ok-places.ensures.counts;
    }

pub returns-clause-rows : goal.returns-clause-rows
returns-clause-rows c = λ day low high.
    let a : NearQuery = record { profile = c.args.as_of.now.profile; today = c.args.as_of.now.today; from = c.args.from; to = c.args.to } in
    let seen = c.args.as_of.now in
    let scopes : List Scope = c.args.self.now.inherits.now in
    let all = sources_of 0 scopes in
    let past : length scopes ≤ c.loop-file.file = omega (arith, c.loop-file-test.false, zip_long c.args.self.now.files.now scopes c.requires.stands.same) in
    let whole = near_files_whole a scopes c.loop-file.file c.loop-file.near.found.items _ past c.loop-file.invariant.found in
    ap (λ (xs : List HeadingStamp). day_rows seen.profile xs seen.today day) whole ∙ near_give_all seen.profile all c.args.from c.args.to seen.today day c.requires.stands.sound low high

pub returns-clause-counts : goal.returns-clause-counts
returns-clause-counts c =
    count_whole c.args.as_of.now c.args.from c.args.to c.args.self.now.files.now c.loop-file.file c.args.meter.now c.loop-file.meter c.loop-file-test.false c.loop-file.invariant.counts
    ∙ ap (λ n. examined n c.args.meter.now) (counted c.args.as_of.now c.args.from c.args.to c.args.self.now.files.now c.args.self.now.inherits.now 0 c.requires.stands.same)
