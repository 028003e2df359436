-- What a list over the files of a world shows.
use Rattle.std.proofs.Common.{◌≡◌, ◌≢◌, ◌∙◌, ◌+◌, ℕ, List, [], ◌∷◌, Bool, Bor, ap, inl, inr, refl, sym}
use Rattle.org_agenda.specs.Lists.{Matching, todo_listing}
use Rattle.org_base.specs.Codes.{memory_fault}
use Rattle.org_base.specs.declared.fault.Fault.{Fault}
use Rattle.org_inherit.specs.Scope.{Scope}
use Rattle.org_store.specs.Outline.{scope_of}
use Rattle.std.proofs.lemmas.Bool.{cases_Bool}
use Rattle.org_engine.specs.Places.{list_in}
use Rattle.org_engine.specs.declared.question.Form.{Form}
use Rattle.org_match.specs.Patterns.{regexp_fault}
use Rattle.org_match.specs.Refusal.{AreReadable, IsRefusal, patterns}
use Rattle.org_match.proofs.Refusable.{readable_or_refused}
use Rattle.std.specs.Prelude.{None, Option, Result, Ok, Err, IfErr, IfOk, Some, bytes_eq, chars, cond, false, is_some, map, not, true}
use Rattle.org_engine.specs.Outlines.{scopes_of}
use Rattle.std.specs.Option.{option_copied, option_map}
use Rattle.std.specs.Str.{IsUtf8}
use Rattle.org_base.specs.declared.code.Code.TheVariants as code
use Rattle.org_base.specs.declared.fault.Fault.TheVariants.{Plain}
use Rattle.org_expression.specs.Grammar.{Expr, Reads}
use Rattle.org_engine.specs.Questions.{IsMissingFault, IsUnread, TellsOf}
use Rattle.org_engine.proofs.QuestionsWords.{IsReadAs}
use Rattle.org_engine.specs.Step.{MatchList, Refused, Reply, Shown, TodoList, file_named, is_missing, over_file, place_named, render_view}
use Rattle.org_engine.specs.declared.question.View.TheVariants.{Match, Todo}
use Rattle.org_engine.specs.Views.{files_named, is_wanted, scopes_named, scopes_over, world_over}
use Rattle.org_engine.specs.World.{FileView, WorldView}

-- a refusal that doesn't stand for memory
pub unread : (text : List ℕ) (fault : Fault) → IsRefusal (chars text) fault → fault ≢ memory_fault → IsUnread text fault
unread text fault (inl none) other = inl none
unread text fault (inr (expr, reads, inl memory)) other = absurd (other memory)
unread text fault (inr (expr, reads, inr refused)) other = inr (refused.0, (expr, reads, refused.1))

-- a view over all files
pub all_named : (scopes : List Scope) → scopes_named None scopes ≡ scopes
all_named [] = refl
all_named (scope ∷ scopes) = ap (λ xs. scope ∷ xs) (all_named scopes)

pub all_files : (files : List FileView) → files_named None files ≡ files
all_files [] = refl
all_files (file ∷ files) = ap (λ xs. file ∷ xs) (all_files files)

pub over_all : (world : WorldView) → world_over None world ≡ world
over_all world = ap (λ files. record world { files = files }) (all_files world.files)

-- what inheritance looks at in the files that a view is over
named_there : (file : Option (List ℕ)) (inherited : List (List ℕ)) (files : List FileView) →
    scopes_named file (map (λ (f : FileView). scope_of inherited f.name f.text) files) ≡ map (λ (f : FileView). scope_of inherited f.name f.text) (files_named file files)
named_there file inherited [] = refl
named_there file inherited (f ∷ fs) = elim (cases_Bool (is_wanted file f.name)) [
  | inl yes' ↦ rw yes' (ap (λ ss. scope_of inherited f.name f.text ∷ ss) (named_there file inherited fs))
  | inr no' ↦ rw no' (named_there file inherited fs)
]

pub scopes_there : (file : Option (List ℕ)) (world : WorldView) → scopes_named file (scopes_of world) ≡ scopes_over file world
scopes_there file world = named_there file world.inherited world.files

-- where a file is found it is there, and where none is found it isn't
mapped : (place : Option ℕ) → is_some (option_map (λ (n : ℕ). n + 1) place) ≡ is_some place
mapped None = refl
mapped (Some n) = refl

place_known : (name : List ℕ) (files : List FileView) → is_some (place_named name files) ≡ is_some (file_named name files)
place_known name [] = refl
place_known name (file ∷ files) = by (bytes_eq name file.name) (place_known name files)
  where
    by : (b : Bool) → is_some (place_named name files) ≡ is_some (file_named name files) →
        is_some (cond b (Some 0) (option_map (λ (n : ℕ). n + 1) (place_named name files))) ≡ is_some (cond b (Some file) (file_named name files))
    by true rest = refl
    by false rest = mapped (place_named name files) ∙ rest

-- where a file has the name it isn't missing, and where none has it is
pub is_there_or_gone : (name : List ℕ) (world : WorldView) (there : Bool) → is_some (place_named name world.files) ≡ there → is_missing (Some name) world.files ≡ not there
is_there_or_gone name world there at = ap not (sym (place_known name world.files) ∙ at)

-- the file that a list is over is there, or it isn't
there_is : (file : Option (List ℕ)) (world : WorldView) (reply shown : Reply) → is_missing file world.files ≡ false → reply ≡ shown → over_file file world reply ≡ shown
there_is file world reply shown there is = ap (λ b. cond b (Refused (Plain code.Unknown)) reply) there ∙ is

is_gone : (file : Option (List ℕ)) (world : WorldView) (reply : Reply) (fault : Fault) → IsMissingFault file world fault → over_file file world reply ≡ Refused fault
is_gone file world reply fault (missing, is) = ap (λ b. cond b (Refused (Plain code.Unknown)) reply) missing ∙ ap Refused (sym is)

-- the answers to a TODO list
pub todo_shown : (form : Form) (file : Option (Bor (List ℕ))) (words : Bor (List (List ℕ))) (world : WorldView) (text : List ℕ) →
    is_missing (option_copied file) world.files ≡ false → text ≡ list_in form (todo_listing words.now) (world_over (option_copied file) world) → TellsOf (Todo file words) form world (Shown text)
todo_shown form file words world text there is =
    (TodoList (option_copied file) words.now, refl, there_is (option_copied file) world _ _ there (ap Shown (sym is)))

pub todo_declined : (form : Form) (file : Option (Bor (List ℕ))) (words : Bor (List (List ℕ))) (world : WorldView) (fault : Fault) →
    IsMissingFault (option_copied file) world fault → TellsOf (Todo file words) form world (Refused fault)
todo_declined form file words world fault why = (TodoList (option_copied file) words.now, refl, is_gone (option_copied file) world _ fault why)

-- the answers to a match list
pub match_shown : (form : Form) (file : Option (Bor (List ℕ))) (asked : Bor (List ℕ)) (world : WorldView) (expr : Expr) (text : List ℕ) → is_missing (option_copied file) world.files ≡ false →
    Reads (chars asked.now) expr → AreReadable (patterns expr) → text ≡ list_in form (Matching expr world.moment) (world_over (option_copied file) world) → TellsOf (Match file asked) form world (Shown text)
match_shown form file asked world expr text there reads readable is =
    (MatchList (option_copied file) (Ok expr), (refl, (reads, readable)), there_is (option_copied file) world _ _ there (ap Shown (sym is)))

pub match_declined : (form : Form) (file : Option (Bor (List ℕ))) (asked : Bor (List ℕ)) (world : WorldView) (fault : Fault) →
    is_missing (option_copied file) world.files ≡ false → IsUnread asked.now fault → TellsOf (Match file asked) form world (Refused fault)
match_declined form file asked world fault there why =
    (MatchList (option_copied file) (Err fault), (refl, why), there_is (option_copied file) world _ _ there refl)

-- a file that isn't there is told, whatever the text is read as
gone_either : (form : Form) (file : Option (List ℕ)) (world : WorldView) (read : Result Expr Fault) (fault : Fault) → IsMissingFault file world fault → render_view form (MatchList file read) world ≡ Refused fault
gone_either form file world (Ok expr) fault why = is_gone file world _ fault why
gone_either form file world (Err f) fault why = is_gone file world _ fault why

-- a text is read as something
read_as : (text : List ℕ) → IsUtf8 text → (r : Result Expr Fault) → IfOk r (Reads (chars text)) → IfOk r (λ expr. AreReadable (patterns expr)) → IfErr r (IsRefusal (chars text)) →
    (read : Result Expr Fault) × IsReadAs text read
read_as text utf8 (Ok expr) reads built why = (Ok expr, (reads, built))
read_as text utf8 (Err fault) reads built (inl none) = (Err fault, inl none)
read_as text utf8 (Err fault) reads built (inr (expr, there, refused)) = elim (readable_or_refused text utf8 expr there) [
  | inl all ↦ (Ok expr, (there, all))
  | inr one ↦ (Err regexp_fault, inr (refl, (expr, there, one)))
]

pub match_gone : (form : Form) (file : Option (Bor (List ℕ))) (asked : Bor (List ℕ)) (world : WorldView) (r : Result Expr Fault) (fault : Fault) → IsUtf8 asked.now →
    IfOk r (Reads (chars asked.now)) → IfOk r (λ expr. AreReadable (patterns expr)) → IfErr r (IsRefusal (chars asked.now)) → IsMissingFault (option_copied file) world fault → TellsOf (Match file asked) form world (Refused fault)
match_gone form file asked world r fault utf8 reads built why gone =
    let read = read_as asked.now utf8 r reads built why in
    (MatchList (option_copied file) read.0, (refl, read.1), gone_either form (option_copied file) world read.0 fault gone)
