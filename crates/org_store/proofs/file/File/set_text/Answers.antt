-- The settings stay, or all sections are pending.
use Rattle.std.proofs.Common.{◌≡◌, ◌∙◌, ◌+◌, ◌≤◌, ap, sym, subst, arith, length, map, replicate, refl, true, false}
use Rattle.org_class.specs.Sections.{sections}
use Rattle.org_settings.specs.Alike.{AnswerAlike}
use Rattle.org_store.specs.File.{AreOf, FileView, IsKept, list_after}
use Rattle.org_store.specs.Outline.{file_settings}
use Rattle.org_store.specs.Sections.{is_read}
use Rattle.org_store.proofs.ChangeLemmas.{kept_bare, kept_changed, list_changed, marks_bare, marks_changed}
use Rattle.org_store.proofs.ChangedSettingsLemmas.{as_itself, new_settings, same_settings}
use Rattle.org_text.specs.Replace.{replace}
use Rattle.org_store.proofs.file.File.set_text.Goals as goal

pub new_settings-requires-clause-sections_of_text : goal.new_settings-requires-clause-sections_of_text
new_settings-requires-clause-sections_of_text g c =
    let t = g.T.Text.content c.self.inside.text in
    let new = g.T.Text.content c.args.text in
    let list = c.self.inside.sections in
    let kept = c.self.invariant in
    let at = c.args.change.at in
    let del = c.args.change.del in
    let ins = c.args.change.ins.now in
    let now : file_settings t ≡ file_settings c.args.self.now.text = ap (λ (f : FileView). file_settings f.text) c.self.view_is in
    let changed : new ≡ replace t at del ins = c.requires.changed ∙ ap (λ (f : FileView). replace f.text at del ins) (sym c.self.view_is) in
    let within : at + del ≤ length t = omega (arith, c.requires.within, ap (λ (f : FileView). length f.text) c.self.view_is) in
    let made : c.in_ok-changed.changed.list ≡ list_after list t at del ins = c.in_ok-changed.ensures.value ∙ ap (λ ks. list_after ks t at del ins) c.list.ensures.value in
    subst (λ xs. AreOf xs c.in_ok-changed.changed.list) (sym changed) (subst (AreOf (replace t at del ins)) (sym made) (list_changed t ins list at del within kept.list_is))

pub invariant_of-self : goal.invariant_of-self
invariant_of-self g c =
    let t = g.T.Text.content c.self.inside.text in
    let new = g.T.Text.content c.args.text in
    let list = c.self.inside.sections in
    let kept = c.self.invariant in
    let at = c.args.change.at in
    let del = c.args.change.del in
    let ins = c.args.change.ins.now in
    let now : file_settings t ≡ file_settings c.args.self.now.text = ap (λ (f : FileView). file_settings f.text) c.self.view_is in
    let changed : new ≡ replace t at del ins = c.requires.changed ∙ ap (λ (f : FileView). replace f.text at del ins) (sym c.self.view_is) in
    let within : at + del ≤ length t = omega (arith, c.requires.within, ap (λ (f : FileView). length f.text) c.self.view_is) in
    let made : c.in_ok-changed.changed.list ≡ list_after list t at del ins = c.in_ok-changed.ensures.value ∙ ap (λ ks. list_after ks t at del ins) c.list.ensures.value in
    let old_text = c.args.self.now.text in
    let same : file_settings (replace t at del ins) ≡ file_settings t = ap file_settings (sym changed) ∙ (same_settings old_text new c.in_ok-new_settings.new_settings c.in_ok-new_settings.ensures.value c.in_default.not-Some ∙ sym now) in
    let alike : AnswerAlike (file_settings (replace t at del ins)) (file_settings t) = as_itself t (replace t at del ins) same in
    subst (λ xs. IsKept xs c.follow.new.self c.self.inside.settings.value) (sym changed) (subst (λ ks. IsKept (replace t at del ins) ks c.self.inside.settings.value) (sym (c.follow.ensures.value ∙ made)) (kept_changed t ins list at del c.self.inside.settings.value c.self.inside.settings.value within kept (kept.own ∙ sym same) alike))

pub returns-in_default-clause-ok : goal.returns-in_default-clause-ok
returns-in_default-clause-ok g c =
    let t = g.T.Text.content c.self.inside.text in
    let new = g.T.Text.content c.args.text in
    let list = c.self.inside.sections in
    let kept = c.self.invariant in
    let at = c.args.change.at in
    let del = c.args.change.del in
    let ins = c.args.change.ins.now in
    let now : file_settings t ≡ file_settings c.args.self.now.text = ap (λ (f : FileView). file_settings f.text) c.self.view_is in
    let changed : new ≡ replace t at del ins = c.requires.changed ∙ ap (λ (f : FileView). replace f.text at del ins) (sym c.self.view_is) in
    let within : at + del ≤ length t = omega (arith, c.requires.within, ap (λ (f : FileView). length f.text) c.self.view_is) in
    let made : c.in_ok-changed.changed.list ≡ list_after list t at del ins = c.in_ok-changed.ensures.value ∙ ap (λ ks. list_after ks t at del ins) c.list.ensures.value in
    let old_text = c.args.self.now.text in
    let same : file_settings (replace t at del ins) ≡ file_settings t = ap file_settings (sym changed) ∙ (same_settings old_text new c.in_ok-new_settings.new_settings c.in_ok-new_settings.ensures.value c.in_default.not-Some ∙ sym now) in
    let alike : AnswerAlike (file_settings (replace t at del ins)) (file_settings t) = as_itself t (replace t at del ins) same in
    let marks = ap (map is_read) (c.follow.ensures.value ∙ made) ∙ marks_changed t ins list at del within kept.list_is in
    rw (← c.self.view_is) (record {
      stays = true;
      settings = (λ _. alike, λ _. refl);
      is = λ i. record { text = changed i; serial = c.self.inside.serial; marks = marks i };
    })

pub invariant_of-self-then-answers_as : goal.invariant_of-self-then-answers_as
invariant_of-self-then-answers_as g c =
    let t = g.T.Text.content c.self.inside.text in
    let new = g.T.Text.content c.args.text in
    let list = c.self.inside.sections in
    let kept = c.self.invariant in
    let at = c.args.change.at in
    let del = c.args.change.del in
    let ins = c.args.change.ins.now in
    let now : file_settings t ≡ file_settings c.args.self.now.text = ap (λ (f : FileView). file_settings f.text) c.self.view_is in
    let changed : new ≡ replace t at del ins = c.requires.changed ∙ ap (λ (f : FileView). replace f.text at del ins) (sym c.self.view_is) in
    let within : at + del ≤ length t = omega (arith, c.requires.within, ap (λ (f : FileView). length f.text) c.self.view_is) in
    let made : c.in_ok-changed.changed.list ≡ list_after list t at del ins = c.in_ok-changed.ensures.value ∙ ap (λ ks. list_after ks t at del ins) c.list.ensures.value in
    let own : c.in-Some.settings.value ≡ file_settings new = new_settings c.args.self.now.text new c.in_ok-new_settings.new_settings c.in-Some.settings c.in_ok-new_settings.ensures.value c.in-Some.is in
    let had : c.self.inside.settings.value ≡ file_settings t = kept.own in
    let alike : AnswerAlike (file_settings (replace t at del ins)) (file_settings t) = subst (λ a. AnswerAlike a (file_settings t)) (own ∙ ap file_settings changed) (subst (AnswerAlike c.in-Some.settings.value) (c.as_ref-2.ensures ∙ had) (subst (λ a. AnswerAlike a c.as_ref-2.result.now) c.as_ref.ensures ((c.answers_as.ensures.value).0 c.if-answers_as.true))) in
    subst (λ xs. IsKept xs c.follow-then-answers_as.new.self c.in-Some.settings.value) (sym changed) (subst (λ ks. IsKept (replace t at del ins) ks c.in-Some.settings.value) (sym (c.follow-then-answers_as.ensures.value ∙ made)) (kept_changed t ins list at del c.self.inside.settings.value c.in-Some.settings.value within kept (own ∙ ap file_settings changed) alike))

pub returns-then-answers_as-clause-ok : goal.returns-then-answers_as-clause-ok
returns-then-answers_as-clause-ok g c =
    let t = g.T.Text.content c.self.inside.text in
    let new = g.T.Text.content c.args.text in
    let list = c.self.inside.sections in
    let kept = c.self.invariant in
    let at = c.args.change.at in
    let del = c.args.change.del in
    let ins = c.args.change.ins.now in
    let now : file_settings t ≡ file_settings c.args.self.now.text = ap (λ (f : FileView). file_settings f.text) c.self.view_is in
    let changed : new ≡ replace t at del ins = c.requires.changed ∙ ap (λ (f : FileView). replace f.text at del ins) (sym c.self.view_is) in
    let within : at + del ≤ length t = omega (arith, c.requires.within, ap (λ (f : FileView). length f.text) c.self.view_is) in
    let made : c.in_ok-changed.changed.list ≡ list_after list t at del ins = c.in_ok-changed.ensures.value ∙ ap (λ ks. list_after ks t at del ins) c.list.ensures.value in
    let own : c.in-Some.settings.value ≡ file_settings new = new_settings c.args.self.now.text new c.in_ok-new_settings.new_settings c.in-Some.settings c.in_ok-new_settings.ensures.value c.in-Some.is in
    let had : c.self.inside.settings.value ≡ file_settings t = kept.own in
    let alike : AnswerAlike (file_settings (replace t at del ins)) (file_settings t) = subst (λ a. AnswerAlike a (file_settings t)) (own ∙ ap file_settings changed) (subst (AnswerAlike c.in-Some.settings.value) (c.as_ref-2.ensures ∙ had) (subst (λ a. AnswerAlike a c.as_ref-2.result.now) c.as_ref.ensures ((c.answers_as.ensures.value).0 c.if-answers_as.true))) in
    let marks = ap (map is_read) (c.follow-then-answers_as.ensures.value ∙ made) ∙ marks_changed t ins list at del within kept.list_is in
    rw (← c.self.view_is) (record {
      stays = true;
      settings = (λ _. alike, λ _. refl);
      is = λ i. record { text = changed i; serial = c.self.inside.serial; marks = marks i };
    })

pub invariant_of-self-2 : goal.invariant_of-self-2
invariant_of-self-2 g c =
    let t = g.T.Text.content c.self.inside.text in
    let new = g.T.Text.content c.args.text in
    let list = c.self.inside.sections in
    let kept = c.self.invariant in
    let at = c.args.change.at in
    let del = c.args.change.del in
    let ins = c.args.change.ins.now in
    let now : file_settings t ≡ file_settings c.args.self.now.text = ap (λ (f : FileView). file_settings f.text) c.self.view_is in
    let changed : new ≡ replace t at del ins = c.requires.changed ∙ ap (λ (f : FileView). replace f.text at del ins) (sym c.self.view_is) in
    let within : at + del ≤ length t = omega (arith, c.requires.within, ap (λ (f : FileView). length f.text) c.self.view_is) in
    let made : c.in_ok-changed.changed.list ≡ list_after list t at del ins = c.in_ok-changed.ensures.value ∙ ap (λ ks. list_after ks t at del ins) c.list.ensures.value in
    let are : AreOf new c.in_ok-changed.changed.list = subst (λ xs. AreOf xs c.in_ok-changed.changed.list) (sym changed) (subst (AreOf (replace t at del ins)) (sym made) (list_changed t ins list at del within kept.list_is)) in
    let own : c.in-Some.settings.value ≡ file_settings new = new_settings c.args.self.now.text new c.in_ok-new_settings.new_settings c.in-Some.settings c.in_ok-new_settings.ensures.value c.in-Some.is in
    subst (λ ks. IsKept new ks c.in-Some.settings.value) (sym (c.new.ensures.value ∙ c.in_ok-pending.ensures.value)) (kept_bare new c.in_ok-changed.changed.list c.in-Some.settings.value are own)

pub returns-clause-ok : goal.returns-clause-ok
returns-clause-ok g c =
    let t = g.T.Text.content c.self.inside.text in
    let new = g.T.Text.content c.args.text in
    let list = c.self.inside.sections in
    let kept = c.self.invariant in
    let at = c.args.change.at in
    let del = c.args.change.del in
    let ins = c.args.change.ins.now in
    let now : file_settings t ≡ file_settings c.args.self.now.text = ap (λ (f : FileView). file_settings f.text) c.self.view_is in
    let changed : new ≡ replace t at del ins = c.requires.changed ∙ ap (λ (f : FileView). replace f.text at del ins) (sym c.self.view_is) in
    let within : at + del ≤ length t = omega (arith, c.requires.within, ap (λ (f : FileView). length f.text) c.self.view_is) in
    let made : c.in_ok-changed.changed.list ≡ list_after list t at del ins = c.in_ok-changed.ensures.value ∙ ap (λ ks. list_after ks t at del ins) c.list.ensures.value in
    let are : AreOf new c.in_ok-changed.changed.list = subst (λ xs. AreOf xs c.in_ok-changed.changed.list) (sym changed) (subst (AreOf (replace t at del ins)) (sym made) (list_changed t ins list at del within kept.list_is)) in
    let own : c.in-Some.settings.value ≡ file_settings new = new_settings c.args.self.now.text new c.in_ok-new_settings.new_settings c.in-Some.settings c.in_ok-new_settings.ensures.value c.in-Some.is in
    let marks = ap (map is_read) (c.new.ensures.value ∙ c.in_ok-pending.ensures.value) ∙ (marks_bare new c.in_ok-changed.changed.list are ∙ ap (λ xs. replicate (length (sections xs)) false) changed) in
    rw (← c.self.view_is) (record {
      stays = false;
      settings = (λ e. absurd cc, λ alike. absurd (let e = (c.answers_as.ensures.value).1 (subst (λ a. AnswerAlike a c.as_ref-2.result.now) (sym (c.as_ref.ensures ∙ own ∙ ap file_settings changed)) (subst (AnswerAlike (file_settings (replace t at del ins))) (sym (c.as_ref-2.ensures ∙ kept.own)) alike)) in let other = c.if-answers_as.false in cc));
      is = λ i. record { text = changed i; serial = c.self.inside.serial; marks = marks i };
    })
