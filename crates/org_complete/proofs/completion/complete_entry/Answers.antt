-- A plan is written as one change of the text.
use Rattle.std.proofs.Common.{◌≡◌, ◌∙◌, ◌+◌, ◌-◌, ◌++◌, List, ℕ, ap, sym, subst, arith, length}
use Rattle.std.specs.Prelude.{string_bytes}
use Rattle.std.specs.Str.{IsUtf8}
use Rattle.org_base.specs.declared.span.Span.{Span}
use Rattle.org_complete.specs.Completion.{keyword_span, gap_behind}
use Rattle.org_complete.specs.Written.{plan_end, plan_text}
use Rattle.org_complete.proofs.ChangeLemmas.{IsEntryOf, change_is}
use Rattle.org_complete.proofs.CompleteLemmas.{plan_written_by}
use Rattle.org_complete.proofs.PlanLemmas.{word_is_text}
use Rattle.org_store.specs.Outline.{file_settings}
use Rattle.org_settings.specs.Keywords.{keyword_word}
use Rattle.org_settings.specs.Settings.{FileSettings}
use Rattle.org_utf8.proofs.Scopes.{files_are_text}
use Rattle.org_complete.proofs.completion.complete_entry.Goals as goal

pub keyword_span-span-requires : goal.keyword_span-span-requires
keyword_span-span-requires g c =
    let t = c.args.file.now.text in
    let settings = file_settings t in
    let own : IsEntryOf t c.args.place settings c.args.entry.now = record { utf8 = c.text_of-text.ensures.utf8; small = c.text_of-text.ensures.fits; within = c.requires.there.section; is = c.requires.entry; headed = c.requires.headed } in
    let change = change_is t c.args.place settings c.args.entry.now c.args.old c.args.plan own c.requires.plan in
    let fits = change.line_fits in
    record { fits = omega (arith, ap length c.line.ensures.value, fits) }

pub push_keyword-requires : goal.push_keyword-requires
push_keyword-requires g c =
    let t = c.args.file.now.text in
    let word = c.keyword_word.ensures.value ∙ ap (λ (s : FileSettings). keyword_word s.keywords c.args.plan.keyword) c.settings.ensures.value in
    record { utf8 = subst IsUtf8 (sym word) (word_is_text (file_settings t).keywords c.args.plan.keyword (files_are_text t c.text_of-text.ensures.utf8).1.keywords) }

pub push_shifts-requires-clause-fits : goal.push_shifts-requires-clause-fits
push_shifts-requires-clause-fits g c =
    let t = c.args.file.now.text in
    let settings = file_settings t in
    let own : IsEntryOf t c.args.place settings c.args.entry.now = record { utf8 = c.text_of-text.ensures.utf8; small = c.text_of-text.ensures.fits; within = c.requires.there.section; is = c.requires.entry; headed = c.requires.headed } in
    (change_is t c.args.place settings c.args.entry.now c.args.old c.args.plan own c.requires.plan).text_fits

pub overflow_add-at : goal.overflow_add-at
overflow_add-at g c =
    let t = c.args.file.now.text in
    let settings = file_settings t in
    let own : IsEntryOf t c.args.place settings c.args.entry.now = record { utf8 = c.text_of-text.ensures.utf8; small = c.text_of-text.ensures.fits; within = c.requires.there.section; is = c.requires.entry; headed = c.requires.headed } in
    let change = change_is t c.args.place settings c.args.entry.now c.args.old c.args.plan own c.requires.plan in
    let fits = change.at_fits in
    let span = c.keyword_span-span.ensures.value ∙ ap (λ (l : List ℕ). keyword_span l c.args.old) c.line.ensures.value in
    let at = ap (λ (s : Span). s.at) span in
    omega (arith, c.start.ensures.value, at, fits)

pub returns-clause-value : goal.returns-clause-value
returns-clause-value g c =
    let t = c.args.file.now.text in
    let settings = file_settings t in
    let x = c.args.entry.now.text in
    let own : IsEntryOf t c.args.place settings c.args.entry.now = record { utf8 = c.text_of-text.ensures.utf8; small = c.text_of-text.ensures.fits; within = c.requires.there.section; is = c.requires.entry; headed = c.requires.headed } in
    let change = change_is t c.args.place settings c.args.entry.now c.args.old c.args.plan own c.requires.plan in
    let span = c.keyword_span-span.ensures.value ∙ ap (λ (l : List ℕ). keyword_span l c.args.old) c.line.ensures.value in
    let word = c.keyword_word.ensures.value ∙ ap (λ (s : FileSettings). keyword_word s.keywords c.args.plan.keyword) c.settings.ensures.value in
    let front : string_bytes c.push_keyword.new.out ≡ keyword_word settings.keywords c.args.plan.keyword ++ gap_behind c.args.old =
    c.in_ok-push_keyword.ensures.ok ∙ ap (λ (b : List ℕ). b ++ (c.keyword_word.result.now ++ gap_behind c.args.old)) c.new-ins.ensures.bytes ∙ ap (λ (w : List ℕ). w ++ gap_behind c.args.old) word in
    let ins : string_bytes c.push_shifts.new.out ≡ (keyword_word settings.keywords c.args.plan.keyword ++ gap_behind c.args.old) ++ plan_text x c.keyword_span-span.result c.args.plan =
    c.in_ok-end.ensures.ok ∙ ap (λ (b : List ℕ). b ++ plan_text x c.keyword_span-span.result c.args.plan) front in
    let all = ins ∙ ap (λ (s : Span). (keyword_word settings.keywords c.args.plan.keyword ++ gap_behind c.args.old) ++ plan_text x s c.args.plan) span in
    let end = c.in_ok-end.ensures.end ∙ ap (λ (s : Span). plan_end s c.args.plan) span in
    plan_written_by t c.args.place c.args.entry.now c.args.old c.args.plan _ change (λ i. c.start.ensures.value i + (span i).at) (λ i. end i - (span i).at) all
