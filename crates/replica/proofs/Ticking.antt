-- The moves of a tick of an open leader.
use Rattle.std.proofs.Common.{◌≡◌, ℕ, suc, ◌+◌, ◌-◌, ◌<◌, ◌≤◌, List, [], ◌∷◌, ◌++◌, take, drop, Option, Some, refl, sym, ap, ◌∙◌, arith, subst, append_assoc}
use Rattle.std.specs.Prelude.{map, max}
use Rattle.std.proofs.lemmas.List.{append-nil}
use Rattle.file_tree.specs.Book.{Entry}
use Rattle.group_rules.specs.Moves.{Move, Sending}
use Rattle.group_rules.specs.Places.{Zero, One, Two, Place, partner}
use Rattle.group_rules.specs.Said.{sends_said}
use Rattle.group_rules.specs.State.{Beat, Message}
use Rattle.group_rules.specs.Tick.{beats, events}
use Rattle.node_outputs.specs.Makes.{Makes}
use Rattle.node_outputs.specs.Messages.{as_heard}
use Rattle.node_outputs.specs.Said.{Said, in_turn, answered, said}
use Rattle.node_outputs.specs.declared.outputs.Outputs.{Outputs}
use Rattle.replica.proofs.Lists.{drop_split, entries_length}
use Rattle.replica.proofs.Spoken.{AreSpoken, events_answer_none, events_spoken, spoken, spoken_acts}
use Rattle.replica.specs.Commits.{above}
use Rattle.replica.specs.Leading.{Leading, Outer, entries, led, partner_of, place_led, storers_led}
use Rattle.replica.specs.declared.leader.Beside.{Beside}
use Rattle.replica.specs.declared.leader.Beside.TheVariants as beside
use Rattle.volatile_log.specs.Log.{top}

pub partner_led : (b : Beside) (me : Place) → partner (storers_led b me) ≡ partner_of b
partner_led beside.DataServer me = refl
partner_led beside.Witness Zero = refl
partner_led beside.Witness One = refl
partner_led beside.Witness Two = refl

-- what the Events of these entries say
abbrev pub events_sent : Leading → ℕ → List Entry → List (Place × Option (Message Entry))
events_sent l n es = map as_heard (sends_said (events
    (partner_of l.beside) l.view l.log.cp l.log.base n es))

-- what is sent of the first entry, and of those after it
pub events_split : (l : Leading) (n k m : ℕ) → l.log.base ≤ n → n < top l.log → m ≡ k + 1
    → events_sent l n (take 1 (above n l)) ++ events_sent l (n + 1) (take k (above (n + 1) l))
    ≡ events_sent l n (take m (above n l))
events_split l n k m from within is =
    let many = entries_length l.log in
    let r = drop_split (entries l.log) (n - l.log.base) (omega (arith, many, from, within)) in
    let next : n - l.log.base + 1 ≡ n + 1 - l.log.base = omega (arith, from) in
    let split : above n l ≡ r.0 ∷ above (n + 1) l = r.1
    ∙ ap (λ k. r.0 ∷ drop k (entries l.log)) next in
    let more : m ≡ suc k = omega (arith, is) in
    ap (λ es. events_sent l n (take 1 es) ++ events_sent l (n + 1) (take k (above (n + 1) l))) split
    ∙ ap (λ j. events_sent l n (take j (r.0 ∷ above (n + 1) l))) (sym more)
    ∙ ap (λ es. events_sent l n (take m es)) (sym split)

-- a Beat and the Events after it are what a tick of an open leader sends
pub ticked : (l : Leading) (o : Outer) (clock : ℕ) (before mid after : Outputs)
    → said mid ≡ record (said before) {
      sends = (said before).sends ++ (
        partner_of l.beside,
        Some
            (Beat l.view l.log.cp l.log.base),
      ) ∷ [];
    }
    → said after ≡ record (said mid) {
      sends = (said mid).sends ++ events_sent l (max l.log.base l.told_top) (take 64 (above
          (max l.log.base l.told_top) l));
    }
    → Makes (place_led l o) clock (beats (led l o)) [] (led l o) (led l o) before after
ticked l o clock before mid after beat again =
    let q = place_led l o in
    let s = led l o in
    let n = max l.log.base l.told_top in
    let es = take 64 (above n l) in
    let to = partner_of l.beside in
    let b = said before in
    let first : Place × Option (Message Entry) = (to, Some (Beat l.view l.log.cp l.log.base)) in
    let ms : List (Move Entry) = Sending to
    (Beat l.view l.log.cp l.log.base) ∷ events to l.view l.log.cp l.log.base n es in
    let heard : AreSpoken ms = (tt, events_spoken to l.view l.log.cp l.log.base n es) in
    let made : Makes q clock ms [] s s before after = record {
      state = sym (spoken_acts q clock s ms heard);
      said = again
          ∙ ap (λ (x : Said). record x { sends = x.sends ++ events_sent l n es }) beat
          ∙ ap (λ zs. record b { sends = zs }) (append_assoc b.sends (first ∷ [])
          (events_sent l n es))
          ∙ ap (λ zs. record b { answers = zs; sends = b.sends ++ map as_heard (sends_said ms) })
          (sym (ap (λ xs. b.answers ++ in_turn answered xs [])
          (events_answer_none to l.view l.log.cp l.log.base n es) ∙ append-nil b.answers))
          ∙ sym (spoken q clock s ms [] b heard);
    } in
    subst (λ (p : Place). Makes q clock (Sending p
    (Beat l.view l.log.cp l.log.base) ∷ events p l.view l.log.cp l.log.base n es) [] s s
    before after)
    (sym (partner_led l.beside o.me)) made

-- one more Event on the way
pub goes_on_sending : (l : Leading) (first n : ℕ) (mid new b : Said) → l.log.base ≤ n
    → n < top l.log → n < first + 64
    → record mid { sends = mid.sends ++ events_sent l n (take (first + 64 - n) (above n l)) } ≡ b
    → new ≡ record mid { sends = mid.sends ++ events_sent l n (take 1 (above n l)) }
    → record new {
      sends = new.sends ++ events_sent l (n + 1) (take (first + 64 - (n + 1)) (above
          (n + 1) l));
    } ≡ b
goes_on_sending l first n mid new b from within few way next =
    let k = first + 64 - (n + 1) in
    let rest = events_sent l (n + 1) (take k (above (n + 1) l)) in
    let one = events_sent l n (take 1 (above n l)) in
    ap (λ (x : Said). record x { sends = x.sends ++ rest }) next
    ∙ ap (λ zs. record mid { sends = zs }) (append_assoc mid.sends one rest
    ∙ ap (λ zs. mid.sends ++ zs) (events_split l n k (first + 64 - n) from within (omega
    (arith, few))))
    ∙ way
