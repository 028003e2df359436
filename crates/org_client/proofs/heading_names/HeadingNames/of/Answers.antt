-- All entries have been passed.
use Rattle.std.proofs.Common.{◌≡◌, ◌∙◌, ◌-◌, ◌≤◌, ℕ, List, length, ap, arith}
use Rattle.std.proofs.lemmas.List.{take_all}
use Rattle.org_client.specs.HeadingNames.{id_headings, last_part}
use Rattle.org_entry.specs.declared.entry.Entry.{Entry}
use Rattle.org_ids.specs.Names.{NamesView, names_of, names_view}
use Rattle.org_client.proofs.IdNameLemmas.{names_length}
use Rattle.org_client.proofs.heading_names.HeadingNames.of.Goals as goal

pub returns : goal.returns
returns c =
    let entries = c.args.outline.now in
    let path = c.args.path.now in
    let past : length entries ≤ c.loop-place.place = omega (arith, c.loop-place-test.false, c.count-place-end.ensures.value) in
    let all : c.loop-place.names ≡ names_view (last_part path) (id_headings entries) =
    c.loop-place.invariant ∙ ap (λ (es : List Entry). names_view (last_part path) (id_headings es)) (take_all c.loop-place.place entries past) in
    let names : c.loop-place.names.names ≡ names_of (last_part path) (id_headings entries) = ap (λ (v : NamesView). v.names) all in
    let count : c.count-2.result ≡ length (id_headings entries) = c.count-2.ensures.value ∙ ap (length {A = List ℕ}) names ∙ names_length (last_part path) (id_headings entries) in
    let front : c.saturating_sub-front.result ≡ length entries - length (id_headings entries) =
    c.saturating_sub-front.ensures ∙ (λ i. c.count.ensures.value i - count i) in
    record { value = λ i. record { names = names i; front = front i } }
