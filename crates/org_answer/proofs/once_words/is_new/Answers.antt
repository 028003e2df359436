use Rattle.std.proofs.Common.{◌∙◌, ap}
use Rattle.std.specs.Prelude.{not, ◌||◌, bytes_eq}
use Rattle.org_inherit.specs.Seen.{is_seen}
use Rattle.org_inherit.proofs.TagLemmas.{is_seen-insert, seen_by_key}
use Rattle.org_answer.proofs.once_words.is_new.Goals as goal

pub returns-clause-value : goal.returns-clause-value
returns-clause-value c =
    let keys = c.args.known.now.keys in
    let word = c.in_ok-word.word in
    c.in_ok-is_new.ensures.added ∙ ap not (seen_by_key keys word) ∙ ap (λ t. not (is_seen keys t)) c.in_ok-word.ensures.items

pub returns-clause-known : goal.returns-clause-known
returns-clause-known c = λ other.
    let keys = c.args.known.now.keys in
    let word = c.in_ok-word.word in
    ap (λ k. is_seen k other) c.in_ok-is_new.ensures.keys ∙ is_seen-insert keys word other ∙ ap (λ t. bytes_eq other t || is_seen keys other) c.in_ok-word.ensures.items
