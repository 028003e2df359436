-- A keyword of a file is text.
use Rattle.std.proofs.Common.{◌∙◌, ap, sym, subst}
use Rattle.std.specs.Str.{IsUtf8}
use Rattle.org_complete.proofs.PlanLemmas.{word_is_text}
use Rattle.org_settings.specs.Keywords.{keyword_word}
use Rattle.org_settings.specs.Settings.{FileSettings}
use Rattle.org_store.specs.Outline.{file_settings}
use Rattle.org_utf8.proofs.Scopes.{files_are_text}
use Rattle.org_act.proofs.done.done_word_at.Goals as goal

pub text_of-requires : goal.text_of-requires
text_of-requires c =
    let t = c.args.file.now.text in
    let place = c.in-Some-first_done.place in
    let text = subst IsUtf8 c.text.ensures.value c.len-len.ensures.utf8 in
    let word = c.keyword_word.ensures.value ∙ ap (λ (s : FileSettings). keyword_word s.keywords place) c.settings-settings.ensures.value in
    record { utf8 = subst IsUtf8 (sym word) (word_is_text (file_settings t).keywords place (files_are_text t text).1.keywords) }
