-- What the map finds is what its view finds, and its entries are those of the view, with one inserted.
use Rattle.std.proofs.Common.{◌≡◌, ◌∙◌, ◌+◌, cond, ap, arith}
use Rattle.std.specs.Prelude.{bytes_eq}
use Rattle.std.specs.Option.{unwrap_or}
use Rattle.org_ical.specs.Counts.{count_of}
use Rattle.org_ical.proofs.CountLemmas.{count-seen, count_of-insert, seen}
use Rattle.org_ical.proofs.counts.KeyCounts.count.Goals as goal

pub overflow_add-number : goal.overflow_add-number
overflow_add-number c =
    let es = c.self.inside.by_key.entries in
    let is : c.unwrap_or-number.result ≡ count_of c.args.self.now c.args.key.now =
    c.unwrap_or-number.ensures
    ∙ ap (λ o. unwrap_or o 0) (c.copied.ensures ∙ c.get.ensures.value ∙ count-seen _ es)
    ∙ ap (λ p. count_of p c.args.key.now) c.self.view_is in
    omega (arith, is, c.requires)

pub returns-clause-value : goal.returns-clause-value
returns-clause-value c =
    let es = c.self.inside.by_key.entries in
    ap (λ n. n + 1)
    (c.unwrap_or-number.ensures
    ∙ ap (λ o. unwrap_or o 0) (c.copied.ensures ∙ c.get.ensures.value ∙ count-seen _ es)
    ∙ ap (λ p. count_of p c.args.key.now) c.self.view_is)

pub returns-clause-counted : goal.returns-clause-counted
returns-clause-counted c = λ q.
    let es = c.self.inside.by_key.entries in
    let is : c.unwrap_or-number.result ≡ count_of c.args.self.now c.args.key.now =
    c.unwrap_or-number.ensures
    ∙ ap (λ o. unwrap_or o 0) (c.copied.ensures ∙ c.get.ensures.value ∙ count-seen _ es)
    ∙ ap (λ p. count_of p c.args.key.now) c.self.view_is in
    ap (λ es. count_of (seen es) q) c.in_ok-insert.ensures.entries
    ∙ count_of-insert q c.args.key.now es c.in_ok-key.key (c.unwrap_or-number.result + 1) c.in_ok-key.ensures.items
    ∙ (λ i. cond (bytes_eq q c.args.key.now) (is i + 1) (count_of (c.self.view_is i) q))
