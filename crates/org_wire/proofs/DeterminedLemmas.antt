-- What a run leaves open.
use Rattle.std.proofs.Common.{◌≡◌, Bool, ◌≢◌, ◌∙◌, ℕ, suc, List, [], ◌∷◌, ◌++◌, ap, arith, length, refl, subst, sym}
use Rattle.std.specs.Prelude.{Option, None, Some, Result, Ok, Err}
use Rattle.std.specs.List.{All}
use Rattle.std.specs.Io.KnownBytes.{Appends}
use Rattle.std.proofs.lemmas.List.Elements.{All-head, All-tail}
use Rattle.org_base.specs.declared.code.Code.TheVariants as code
use Rattle.org_base.specs.declared.fault.Fault.{Fault}
use Rattle.org_base.specs.declared.fault.Fault.TheVariants.{Plain}
use Rattle.org_engine.specs.Questions.{AsksOf}
use Rattle.org_engine.specs.declared.question.Form.{Form}
use Rattle.org_engine.specs.Step.{Query, render_view, world_for}
use Rattle.org_engine.proofs.StepWords.{answer}
use Rattle.org_engine.specs.Step as step
use Rattle.org_engine.proofs.AnswerLemmas.{same_clock, same_match}
use Rattle.org_engine.specs.World.{State, WorldView}
use Rattle.org_wire.specs.Determined.{IsSettled, RunsAreDetermined}
use Rattle.org_wire.specs.Run.{AnswersSo, EndsSo, IsWhole, Means, MeansView, AreReplies, Turn, last_bytes, shown, told_to, written}
use Rattle.org_wire.specs.Stream.{line_of, reading_of}
use Rattle.org_wire.specs.declared.command.Command.{Command}
use Rattle.org_wire.specs.declared.command.Command.TheVariants.{Add, Agenda, At, Clock, Complete, Drop, Edit, Inherit, Keywords, Match, Pin, Profile, Text, Todo, Unpin, Version}
use Rattle.org_wire.specs.declared.command.Request.{Request}
use Rattle.org_wire.specs.declared.command.Next.{Next}
use Rattle.org_wire.specs.declared.command.Next.TheVariants.{Given, Refused, Last, Ended}
use Rattle.org_wire.specs.declared.reply.Reply.{Reply}
use Rattle.org_wire.specs.declared.stream.End.{End}

-- the answer to a question, as it is written
abbrev send : Form → Query → WorldView → Reply
send form question world = shown (render_view form question world)

-- no pattern was refused
built : (r : step.Reply) → IsSettled (shown r) → r ≢ step.Refused (Plain code.Regexp)
built r settled is = settled.1 (ap shown is)

-- views: what is asked has one answer, whether or not its world can be asked
abbrev IsOneAnswer : Form → (ℕ → Query → Type 0) → Type 0
IsOneAnswer form asks = (day : ℕ) (p q : Query) (world : WorldView) → asks day p → asks day q → IsSettled (send form p world) → IsSettled (send form q world) → render_view form p world ≡ render_view form q world

one_answer : (form : Form) (asks : ℕ → Query → Type 0) → IsOneAnswer form asks → (w : Result WorldView Fault) (p q : Query) → AsksOf asks w p → AsksOf asks w q → IsSettled (shown (answer form p w)) → IsSettled (shown (answer form q w)) →
    answer form p w ≡ answer form q w
one_answer form asks one (Err f) p q a b s t = refl
one_answer form asks one (Ok world) p q a b s t = one world.moment.day p q world a b s t

-- what is answered, and the state after it
record Same (a b : Reply) (mid mid' : State) : Type 0 where
  answer : a ≡ b
  state : mid ≡ mid'

module _ (second : Bool) where
  module _ (old mid mid' : State) (a b : Reply) (s : IsSettled a) (t : IsSettled b) where
    by_one : (tell_it : step.Reply → Reply) (one said other : step.Command) → said ≡ one → other ≡ one → a ≡ tell_it (step.step said old).reply → mid ≡ (step.step said old).after →
        b ≡ tell_it (step.step other old).reply → mid' ≡ (step.step other old).after → Same a b mid mid'
    by_one tell_it one said other is also am after bm behind =
        let same : said ≡ other = is ∙ sym also in
        record {
          answer = am ∙ ap (λ c. tell_it (step.step c old).reply) same ∙ sym bm;
          state = after ∙ ap (λ c. (step.step c old).after) same ∙ sym behind;
        }

    by_view : (asks : ℕ → Query → Type 0) (request : Request) → IsOneAnswer request.form asks → (said other : step.Command) → MeansView asks request old said → MeansView asks request old other →
        a ≡ shown (step.step said old).reply → mid ≡ (step.step said old).after → b ≡ shown (step.step other old).reply → mid' ≡ (step.step other old).after → Same a b mid mid'
    by_view asks request one said other (p, asked, is) (q, also, that) am after bm behind =
        let w : Result WorldView Fault = world_for request.session old in
        let mine : a ≡ shown (answer request.form p w) = am ∙ ap (λ c. shown (step.step c old).reply) is in
        let theirs : b ≡ shown (answer request.form q w) = bm ∙ ap (λ c. shown (step.step c old).reply) that in
        let same = one_answer request.form asks one w p q asked also (subst IsSettled mine s) (subst IsSettled theirs t) in
        record {
          answer = mine ∙ ap shown same ∙ sym theirs;
          state = after ∙ ap (λ c. (step.step c old).after) is ∙ sym (behind ∙ ap (λ c. (step.step c old).after) that);
        }

    by_command : (command : Command) (said other : step.Command) → Means command old said → Means command old other →
        a ≡ told_to second command old (step.step said old).reply → mid ≡ (step.step said old).after → b ≡ told_to second command old (step.step other old).reply → mid' ≡ (step.step other old).after → Same a b mid mid'
    by_command (Add name text) said other p q = by_one shown _ said other p q
    by_command (Drop name) said other p q = by_one shown _ said other p q
    by_command (Edit seen at del ins) said other p q = by_one shown _ said other p q
    by_command (Complete seen line keyword) said other p q = by_one (told_to second (Complete seen line keyword) old) _ said other p q
    by_command (Inherit names) said other p q = by_one shown _ said other p q
    by_command (At moment) said other p q = by_one shown _ said other p q
    by_command (Profile profile) said other p q = by_one shown _ said other p q
    by_command (Pin session) said other p q = by_one shown _ said other p q
    by_command (Unpin session) said other p q = by_one shown _ said other p q
    by_command (Text name) said other p q = by_one shown _ said other p q
    by_command (Keywords name) said other p q = by_one shown _ said other p q
    by_command Version said other p q = by_one shown _ said other p q
    by_command (Todo request file words) said other p q = by_view _ request (λ day p q world i j s t. ap (λ question. render_view request.form question world) (i ∙ sym j)) said other p q
    by_command (Match request file text) said other p q = by_view _ request (λ day p q world i j s t. same_match request.form file text p q world i j (built (render_view request.form p world) s) (built (render_view request.form q world) t)) said other p q
    by_command (Agenda request date days) said other p q = by_view _ request (λ day p q world i j s t. ap (λ question. render_view request.form question world) (i ∙ sym j)) said other p q
    by_command (Clock request text) said other p q = by_view _ request (λ day p q world i j s t. same_clock request.form text day p q world i j (built (render_view request.form p world) s) (built (render_view request.form q world) t)) said other p q

    by_next : (next : Next) → AnswersSo second next old a mid → AnswersSo second next old b mid' → Same a b mid mid'
    by_next (Given command) (said, means, am, after) (other, says, bm, behind) = by_command command said other means says am after bm behind
    by_next (Refused fault) p q = record { answer = p.0 ∙ sym q.0; state = p.1 ∙ sym q.1 }
    by_next (Last fault) p q = absurd p
    by_next Ended p q = absurd p

  same_turn : (bytes : List ℕ) (old mid mid' : State) (a b : Reply) → Turn second (line_of second) bytes old a mid → Turn second (line_of second) bytes old b mid' → IsSettled a → IsSettled b → Same a b mid mid'
  same_turn bytes old mid mid' a b p q s t = by_next old mid mid' a b s t (reading_of second bytes).next (p.done s.0) (q.done t.0)

  same_runs : (bytes rest left : List ℕ) (old new after : State) (answers others : List Reply) → AreReplies second (line_of second) bytes old answers rest new → AreReplies second (line_of second) bytes old others left after →
      length answers ≡ length others → All IsSettled answers → All IsSettled others → (answers ≡ others) × (rest ≡ left) × (new ≡ after)
  same_runs bytes rest left old new after [] [] p q e s t = (refl, p.0 ∙ sym q.0, p.1 ∙ sym q.1)
  same_runs bytes rest left old new after [] (b ∷ others) p q e s t = absurd (omega (arith, e))
  same_runs bytes rest left old new after (a ∷ answers) [] p q e s t = absurd (omega (arith, e))
  same_runs bytes rest left old new after (a ∷ answers) (b ∷ others) (mid, turn, runs) (mid', other, behind) e s t =
      let one = same_turn bytes old mid mid' a b turn other (All-head IsSettled a answers s) (All-head IsSettled b others t) in
      let all = same_runs (reading_of second bytes).rest rest left mid new after answers others runs (subst (λ (m : State). AreReplies second (line_of second) (reading_of second bytes).rest m others left after) (sym one.state) behind)
      (omega (arith, e)) (All-tail IsSettled a answers s) (All-tail IsSettled b others t) in
      (ap (λ x. x ∷ answers) one.answer ∙ ap (λ xs. b ∷ xs) all.0, all.1, all.2)

  -- no turn is made where the stream has ended
  no_turn : (bytes : List ℕ) (old mid : State) (a : Reply) (end : End) → EndsSo (reading_of second bytes).next end → Turn second (line_of second) bytes old a mid → IsSettled a → ⊥
  no_turn bytes old mid a end ends turn s = stops (reading_of second bytes).next ends (turn.done s.0) where
    stops : (next : Next) → EndsSo next end → AnswersSo second next old a mid → ⊥
    stops (Given command) e p = e
    stops (Refused fault) e p = e
    stops (Last fault) e p = p
    stops Ended e p = p

  same_length : (bytes rest left : List ℕ) (old new after : State) (answers others : List Reply) (end last : End) → AreReplies second (line_of second) bytes old answers rest new → AreReplies second (line_of second) bytes old others left after →
      EndsSo (reading_of second rest).next end → EndsSo (reading_of second left).next last → All IsSettled answers → All IsSettled others → length answers ≡ length others
  same_length bytes rest left old new after [] [] end last p q e f s t = refl
  same_length bytes rest left old new after [] (b ∷ others) end last p (mid', other, behind) e f s t =
      absurd (no_turn bytes old mid' b end (subst (λ l. EndsSo (reading_of second l).next end) p.0 e) other (All-head IsSettled b others t))
  same_length bytes rest left old new after (a ∷ answers) [] end last (mid, turn, runs) q e f s t =
      absurd (no_turn bytes old mid a last (subst (λ l. EndsSo (reading_of second l).next last) q.0 f) turn (All-head IsSettled a answers s))
  same_length bytes rest left old new after (a ∷ answers) (b ∷ others) end last (mid, turn, runs) (mid', other, behind) e f s t =
      let one = same_turn bytes old mid mid' a b turn other (All-head IsSettled a answers s) (All-head IsSettled b others t) in
      ap suc (same_length (reading_of second bytes).rest rest left mid new after answers others end last runs (subst (λ (m : State). AreReplies second (line_of second) (reading_of second bytes).rest m others left after) (sym one.state) behind)
      e f (All-tail IsSettled a answers s) (All-tail IsSettled b others t))

  one_end : (next : Next) (end last : End) → EndsSo next end → EndsSo next last → end ≡ last
  one_end (Given command) end last e f = absurd e
  one_end (Refused fault) end last e f = absurd e
  one_end (Last fault) end last e f = e ∙ sym f
  one_end Ended end last e f = e ∙ sym f

  one_text : (had more : List ℕ) (has mid' : Option (List ℕ)) → Appends (Some had) has more → Appends (Some had) mid' more → has ≡ mid'
  one_text had more None mid' p q = absurd p
  one_text had more (Some xs) None p q = absurd q
  one_text had more (Some xs) (Some ys) p q = ap Some (p ∙ sym q)

  same_whole : (bytes had : List ℕ) (has mid' : Option (List ℕ)) (old new after : State) (end last : End) (run : IsWhole second (line_of second) bytes old end new (Some had) has) (other : IsWhole second (line_of second) bytes old last after (Some had) mid') →
      All IsSettled run.answers → All IsSettled other.answers → (has ≡ mid') × (end ≡ last) × (new ≡ after)
  same_whole bytes had has mid' old new after end last run other s t =
      let size = same_length bytes run.rest other.rest old new after run.answers other.answers end last run.runs other.runs run.ends other.ends s t in
      let all = same_runs bytes run.rest other.rest old new after run.answers other.answers run.runs other.runs size s t in
      let bytes_so : written run.answers ++ last_bytes (reading_of second run.rest).next ≡ written other.answers ++ last_bytes (reading_of second other.rest).next =
      ap (λ rs. written rs ++ last_bytes (reading_of second run.rest).next) all.0 ∙ ap (λ l. written other.answers ++ last_bytes (reading_of second l).next) all.1 in (
        one_text had (written other.answers ++ last_bytes (reading_of second other.rest).next) has mid' (subst (λ more. Appends (Some had) has more) bytes_so run.wrote) other.wrote,
        one_end (reading_of second other.rest).next end last (subst (λ l. EndsSo (reading_of second l).next end) all.1 run.ends) other.ends,
        all.2,
      )

pub runs_are_determined : RunsAreDetermined
runs_are_determined = record { alike = same_runs; whole = same_whole }
