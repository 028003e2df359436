-- Events one after another, and what they leave as it is.
use Rattle.std.proofs.Common.{◌≡◌, List, [], ◌∷◌, ◌++◌, refl, ◌∙◌, ap, append_assoc, Result, Ok, Err, IfErr, IsErrAnd, OnErr, sym}
use Rattle.org_save.specs.Calls.{AddsEither}
use Rattle.org_save.specs.Contents.{Content, Contents, Differ, Leaves, LeaveAll, absent, after_event, after_events, content_at, kept, lengthened, settled, torn, with_content, written}
use Rattle.org_save.specs.Events.{Event, made, gave_access, wrote, tore, synced, found, found_former, renamed, removed, listed, restored}
use Rattle.org_save.specs.declared.name.Name.{Name}
use Rattle.org_save.specs.declared.name.Name.TheVariants.{Target, Temporary, Rescue}

-- a file of another name stays
other_content : (a b : Name) → Differ a b → (x : Content) (c : Contents) → content_at a (with_content b x c) ≡ content_at a c
other_content Target Target d x c = absurd d
other_content Target Temporary d x c = refl
other_content Target Rescue d x c = refl
other_content Temporary Target d x c = refl
other_content Temporary Temporary d x c = absurd d
other_content Temporary Rescue d x c = refl
other_content Rescue Target d x c = refl
other_content Rescue Temporary d x c = refl
other_content Rescue Rescue d x c = absurd d

pub event_leaves : (a : Name) (e : Event) → Leaves a e → (c : Contents) → content_at a (after_event e c) ≡ content_at a c
event_leaves a (made b) d c = other_content a b d (written []) c
event_leaves a (gave_access b) d c = refl
event_leaves a (wrote b bytes) d c = other_content a b d (lengthened bytes (content_at b c)) c
event_leaves a (tore b) d c = other_content a b d torn c
event_leaves a (synced b) d c = other_content a b d (settled (content_at b c)) c
event_leaves a (found b bytes) d c = refl
event_leaves a (found_former bytes) d c = refl
event_leaves a (renamed b e) d c =
    other_content a b d.0 absent (with_content e (content_at b c) c) ∙ other_content a e d.1 (content_at b c) c
event_leaves a (removed b) d c = other_content a b d absent c
event_leaves a listed d c = refl
event_leaves a (restored bytes) d c = other_content a Target d (kept bytes) c

pub events_leave : (a : Name) (done : List Event) → LeaveAll a done → (c : Contents) → content_at a (after_events c done) ≡ content_at a c
events_leave a [] are c = refl
events_leave a (e ∷ done) are c = event_leaves a e are.0 (after_events c done) ∙ events_leave a done are.1 c

-- events after others
pub after_append : (c : Contents) (xs ys : List Event) → after_events c (xs ++ ys) ≡ after_events (after_events c ys) xs
after_append c [] ys = refl
after_append c (x ∷ xs) ys = ap (after_event x) (after_append c xs ys)

pub LeaveAll-append : (a : Name) (xs ys : List Event) → LeaveAll a xs → LeaveAll a ys → LeaveAll a (xs ++ ys)
LeaveAll-append a [] ys p q = q
LeaveAll-append a (x ∷ xs) ys p q = (p.0, LeaveAll-append a xs ys p.1 q)

-- one event more
pub one_more : (e : Event) (before mid after done : List Event) → after ≡ e ∷ mid → mid ≡ done ++ before → after ≡ (e ∷ done) ++ before
one_more e before mid after done last rest = last ∙ ap (λ (es : List Event). e ∷ es) rest

-- two calls, one after the other
pub joined : (before mid after first second : List Event) → mid ≡ first ++ before → after ≡ second ++ mid → after ≡ (second ++ first) ++ before
joined before mid after first second one two =
    two ∙ ap (λ (es : List Event). second ++ es) one ∙ sym (append_assoc second first before)

-- what an error that is passed on brings along
pub passed_on : {T E : Type 0} (r : Result T E) (P Q : E → Type 0) → ((e : E) → P e → Q e) → IsErrAnd r P → IfErr r Q
passed_on (Ok x) P Q more h = tt
passed_on (Err e) P Q more h = more e h

-- what holds anyway holds of a refusal, and of a call that failed what its event brings along
pub on_err : {T E : Type 0} (r : Result T E) (P : Type 0) → P → OnErr r P
on_err (Ok x) P h = tt
on_err (Err e) P h = h

pub either_failed : {T E : Type 0} (r : Result T E) (e failed : Event) (before after : List Event) (P : Type 0) → AddsEither r e failed before after → (after ≡ failed ∷ before → P) → OnErr r P
either_failed (Ok x) e failed before after P h more = tt
either_failed (Err x) e failed before after P h more = more h
