-- Messages: what is read is spelled so, and what is spelled so is read.
use Rattle.std.proofs.Common.{◌≡◌, ℕ, ◌+◌, ◌<◌, ◌≤◌, Bool, true, cond, ltb, List, ◌++◌, length, drop, Some, Ok, Err, refl, ap, subst, ◌∙◌, append_assoc, arith}
use Rattle.std.specs.Prelude.{decimal, codes, map}
use Rattle.std.proofs.lemmas.Bool.{ltb-true, lt-ltb}
use Rattle.std.proofs.lemmas.List.{length-append}
use Rattle.harp_types.specs.Server.{number_of}
use Rattle.harp_types.specs.declared.server.ServerId.{ServerId}
use Rattle.harp_types.specs.declared.server.ServerId.TheVariants as servers
use Rattle.harp_types.specs.declared.state.Held.{Held}
use Rattle.harp_types.specs.declared.state.Held.TheVariants as held
use Rattle.trace_types.specs.declared.line.ShownMessage.{ShownMessage}
use Rattle.trace_types.specs.declared.line.ShownMessage.TheVariants as message
use Rattle.text_spelling.specs.Text.{spaced}
use Rattle.text_spelling.specs.Lines.{view_text, held_text}
use Rattle.text_spelling.specs.TraceLines.{message_text}
use Rattle.schedule_text.specs.declared.fault.TextFault.TheVariants.{Grammar}
use Rattle.schedule_text.specs.Fields.{Read, ◌>>=◌, EndsWord, spaced_at}
use Rattle.schedule_text.specs.Words.{ranged_at}
use Rattle.schedule_text.proofs.Places.{Spells, Spells-then, IsField, drop_past, bind_ok, ok_is, passed}
use Rattle.schedule_text.proofs.FieldLaws.{server_text}
use Rattle.schedule_text.proofs.Faults.{PlacedReader}
use Rattle.schedule_text.proofs.Faults as faults
use Rattle.schedule_text.specs.Reading.{spaced_server_at}
use Rattle.schedule_text.proofs.Rows.{IsRow, u32_row, count_row, server_row, both_row, spaced_row, made_takes, made_again, made_placed}
use Rattle.schedule_text.proofs.PickLaws.{ranged_field, ranged_reader}
use Rattle.trace_text.specs.declared.message_form.MessageForm.{MessageForm}
use Rattle.trace_text.specs.declared.message_form.MessageForm.TheVariants as form
use Rattle.trace_text.specs.Fields.{value_named, helds, held_at}
use Rattle.trace_text.specs.Messages.{storers_at, spaced_index_at, three_at, message_name, message_forms, message_fields_at, message_at}
use Rattle.trace_text.specs.Fits.{IsCount, MessageFits}
use Rattle.trace_text.proofs.Pieces.{respelled}
use Rattle.trace_text.proofs.Named.{Any, is_word, value_unique, naming_field, naming_placed, IsByName, by_field, by_placed}
use Rattle.trace_text.proofs.AttrLaws.{view_row}

-- ---- what is held

held_again : (h : Held) → value_named held_text helds (held_text h) ≡ Some h
held_again held.Empty = refl
held_again held.Held = refl
held_again held.Lost = refl

held_word : (h : Held) → is_word (held_text h) ≡ true
held_word held.Empty = refl
held_word held.Held = refl
held_word held.Lost = refl

pub held_row : IsRow (spaced_at held_at) (λ h. spaced (held_text h)) Any
held_row = spaced_row held_at held_text Any
    (naming_field held_text helds (record { again = held_again; word = held_word }))
    (naming_placed held_text helds)

-- ---- numbers

pub three_row : IsRow three_at
    (λ x. spaced (decimal x.0.0) ++ spaced (decimal x.0.1) ++ spaced (decimal x.1))
    (λ x. (IsCount x.0.0 × IsCount x.0.1) × IsCount x.1)
three_row = both_row (both_row count_row count_row) count_row

abbrev IsIndex : ℕ → Type 0
IsIndex n = (1 ≤ n) × (n ≤ 999999999999999999)

index_row : IsRow spaced_index_at (λ n. spaced (decimal n)) IsIndex
index_row = spaced_row (ranged_at 1 999999999999999999) decimal IsIndex
    (ranged_field 1 999999999999999999 (omega arith))
    (ranged_reader 1 999999999999999999 (omega arith))

abbrev IsAmount : ℕ → Type 0
IsAmount n = (1 ≤ n) × (n ≤ 65535)

amount_row : IsRow (spaced_at (ranged_at 1 65535)) (λ n. spaced (decimal n)) IsAmount
amount_row = spaced_row (ranged_at 1 65535) decimal IsAmount (ranged_field 1 65535 (omega arith))
    (ranged_reader 1 65535 (omega arith))

-- ---- the storers of a view

abbrev Storers : Type 0
Storers = ServerId × ServerId

abbrev spaced_server : ServerId → List ℕ
spaced_server s = spaced (server_text s)

abbrev storers_text : Storers → List ℕ
storers_text x = spaced_server x.0 ++ spaced_server x.1

abbrev StorersFit : Storers → Type 0
StorersFit x = number_of x.0 < number_of x.1

abbrev storers_read : ServerId → ServerId → ℕ → Read Storers
storers_read a b n = Ok ((a, b), n)

abbrev partner_says : ServerId × ℕ → ServerId × ℕ → Read Storers
partner_says leader partner =
    cond (ltb (number_of leader.0) (number_of partner.0))
    (storers_read leader.0 partner.0 partner.1) (Err (Grammar (leader.1 + 1)))

abbrev partner_at : List ℕ → ServerId × ℕ → Read Storers
partner_at line leader = spaced_server_at line leader.1 >>= partner_says leader

abbrev leader_says : List ℕ → ℕ → ServerId × ℕ → Read Storers
leader_says line at leader =
    cond (ltb (number_of leader.0) 2) (partner_at line leader) (Err (Grammar (at + 1)))

storers_takes : (line : List ℕ) (at : ℕ) (x : Storers × ℕ) → storers_at line at ≡ Ok x
    → Spells line at (storers_text x.0) x.1 × StorersFit x.0
unfolding storers_at
storers_takes line at x e =
    let p = bind_ok (spaced_server_at line at) (leader_says line at) x e in
    let low = passed (ltb (number_of p.0.0) 2) (Grammar (at + 1)) (partner_at line p.0) x p.2 in
    let q = bind_ok (spaced_server_at line p.0.1) (partner_says p.0) x low.1 in
    let above = passed (ltb (number_of p.0.0) (number_of q.0.0)) (Grammar (p.0.1 + 1))
    (storers_read p.0.0 q.0.0 q.0.1) x q.2 in
    let one = server_row.field.takes line at p.0 p.1 in
    let two = server_row.field.takes line p.0.1 q.0 q.1 in
    let both = Spells-then line at (spaced_server p.0.0) p.0.1 (spaced_server q.0.0) q.0.1 one.0
    two.0 in
    subst (λ (y : Storers × ℕ). Spells line at (storers_text y.0) y.1 × StorersFit y.0)
    (ok_is ((p.0.0, q.0.0), q.0.1) x above.1)
    (both, ltb-true (number_of p.0.0) (number_of q.0.0) above.0)

below_two : (a b : ServerId) → number_of a < number_of b → number_of a < 2
below_two a servers.Zero lt = omega (arith, lt)
below_two a servers.One lt = omega (arith, lt)
below_two a servers.Two lt = lt

storers_again : (line : List ℕ) (at : ℕ) (x : Storers) (rest : List ℕ) → StorersFit x
    → EndsWord rest → drop at line ≡ storers_text x ++ rest
    → storers_at line at ≡ Ok (x, at + length (storers_text x))
unfolding storers_at
storers_again line at x rest fits ends e =
    let front : drop at line ≡ spaced_server x.0 ++ (spaced_server x.1 ++ rest) =
    e ∙ append_assoc (spaced_server x.0) (spaced_server x.1) rest in
    let one = server_row.field.again line at x.0 (spaced_server x.1 ++ rest) tt refl front in
    let mid = at + length (spaced_server x.0) in
    let two = server_row.field.again line mid x.1 rest tt ends
    (drop_past line at (spaced_server x.0) (spaced_server x.1 ++ rest) front) in
    let end : mid + length (spaced_server x.1) ≡ at + length (storers_text x) = omega
    (arith, length-append (spaced_server x.0) (spaced_server x.1)) in
    let low = lt-ltb (number_of x.0) 2 (below_two x.0 x.1 fits) in
    let above = lt-ltb (number_of x.0) (number_of x.1) fits in
    ap (λ (o : Read ServerId). o >>= leader_says line at) one
    ∙ ap (λ (b : Bool). cond b (partner_at line (x.0, mid)) (Err (Grammar (at + 1)))) low
    ∙ ap (λ (o : Read ServerId). o >>= partner_says (x.0, mid)) two
    ∙ ap (λ (b : Bool). cond b (storers_read x.0 x.1 (mid + length (spaced_server x.1)))
    (Err (Grammar (mid + 1)))) above
    ∙ ap (storers_read x.0 x.1) end

storers_placed : PlacedReader storers_at
unfolding storers_at
storers_placed line at =
    faults.bind (spaced_server_at line at) _ (server_row.placed line at) (λ leader.
    faults.choice (ltb (number_of leader.0) 2) _ _
    (faults.bind (spaced_server_at line leader.1) _ (server_row.placed line leader.1)
    (λ partner. faults.choice (ltb (number_of leader.0) (number_of partner.0)) _ _ tt tt)) tt)

storers_row : IsRow storers_at storers_text StorersFit
storers_row = record {
  field = record { takes = storers_takes; again = storers_again };
  placed = storers_placed;
  apart = λ x rest. refl;
}

-- ---- messages

abbrev message_form : ShownMessage → MessageForm
message_form (message.Invite view) = form.Invite
message_form (message.Join view _ accepted base lb cp top horizon) = form.Join
message_form (message.Form view leader partner source base cp start horizon) = form.Form
message_form (message.Fetch view first) = form.Fetch
message_form (message.Give view first records) = form.Give
message_form (message.Formed view lb) = form.Formed
message_form (message.Event view index cp base client number) = form.Event
message_form (message.Beat view cp base) = form.Beat
message_form (message.Ack view top lb until) = form.Ack
message_form (message.Demote view) = form.Demote

-- what stands behind the name of a message
abbrev message_rest : ShownMessage → List ℕ
message_rest (message.Invite view) = spaced (view_text view)
message_rest (message.Join view held accepted base lb cp top horizon) =
    spaced (view_text view) ++ spaced (held_text held) ++ spaced (view_text accepted)
    ++ (spaced (decimal base) ++ spaced (decimal lb) ++ spaced (decimal cp)
    ++ spaced (decimal top) ++ spaced (decimal horizon))
message_rest (message.Form view leader partner source base cp start horizon) =
    spaced (view_text view) ++ storers_text (leader, partner) ++ spaced_server source
    ++ (spaced (decimal base) ++ spaced (decimal cp) ++ spaced (decimal start)
    ++ spaced (decimal horizon))
message_rest (message.Fetch view first) = spaced (view_text view) ++ spaced (decimal first)
message_rest (message.Give view first records) =
    spaced (view_text view) ++ spaced (decimal first) ++ spaced (decimal records)
message_rest (message.Formed view lb) = spaced (view_text view) ++ spaced (decimal lb)
message_rest (message.Event view index cp base client number) =
    spaced (view_text view) ++ spaced (decimal index) ++ spaced (decimal cp)
    ++ spaced (decimal base) ++ spaced (decimal client) ++ spaced (decimal number)
message_rest (message.Beat view cp base) =
    spaced (view_text view) ++ spaced (decimal cp) ++ spaced (decimal base)
message_rest (message.Ack view top lb until) =
    spaced (view_text view) ++ spaced (decimal top) ++ spaced (decimal lb) ++ spaced (decimal until)
message_rest (message.Demote view) = spaced (view_text view)

message_parts : (m : ShownMessage) → message_text m ≡ message_name (message_form m)
    ++ message_rest m
unfolding message_text
message_parts (message.Invite view) = refl
message_parts (message.Join view _ accepted base lb cp top horizon) = refl
message_parts (message.Form view leader partner source base cp start horizon) =
    ap (λ (l : List ℕ). l ++ spaced_server source ++ (spaced (decimal base) ++ spaced (decimal cp)
    ++ spaced (decimal start) ++ spaced (decimal horizon)))
    (append_assoc (codes "form" ++ spaced (view_text view)) (spaced_server leader)
    (spaced_server partner))
message_parts (message.Fetch view first) = refl
message_parts (message.Give view first records) = refl
message_parts (message.Formed view lb) = refl
message_parts (message.Event view index cp base client number) = refl
message_parts (message.Beat view cp base) = refl
message_parts (message.Ack view top lb until) = refl
message_parts (message.Demote view) = refl

abbrev IsOf : MessageForm → ShownMessage → Type 0
IsOf n m = MessageFits m × (message_form m ≡ n)

message_take : (n : MessageForm) (line : List ℕ) (at : ℕ) (x : ShownMessage × ℕ)
    → message_fields_at n line at ≡ Ok x → Spells line at (message_rest x.0) x.1 × IsOf n x.0
unfolding message_fields_at
message_take form.Invite line at x e =
    made_takes view_row message.Invite message_rest (IsOf form.Invite) (λ a f. (refl, (f, refl)))
    line at x e
message_take form.Join line at x e =
    made_takes (both_row (both_row (both_row view_row held_row) view_row) (both_row (both_row
    three_row count_row) count_row))
    (λ x. message.Join x.0.0.0 x.0.0.1 x.0.1 x.1.0.0.0.0 x.1.0.0.0.1 x.1.0.0.1 x.1.0.1 x.1.1)
    message_rest (IsOf form.Join) (λ a f. (
      refl,
      ((f.0.0.0, f.0.1, f.1.0.0.0.0, f.1.0.0.0.1, f.1.0.0.1, f.1.0.1, f.1.1), refl),
    )) line at x e
message_take form.Form line at x e =
    made_takes (both_row (both_row (both_row view_row storers_row) server_row) (both_row three_row
    count_row))
    (λ x. message.Form x.0.0.0 x.0.0.1.0 x.0.0.1.1 x.0.1 x.1.0.0.0 x.1.0.0.1 x.1.0.1 x.1.1)
    message_rest (IsOf form.Form) (λ a f. (
      refl,
      ((f.0.0.0, f.0.0.1, f.1.0.0.0, f.1.0.0.1, f.1.0.1, f.1.1), refl),
    )) line at x e
message_take form.Fetch line at x e =
    made_takes (both_row view_row count_row) (λ x. message.Fetch x.0 x.1) message_rest (IsOf
    form.Fetch)
    (λ a f. (refl, (f, refl))) line at x e
message_take form.Give line at x e =
    made_takes (both_row (both_row view_row count_row) amount_row) (λ x. message.Give x.0.0 x.0.1
    x.1) message_rest (IsOf form.Give)
    (λ a f. (refl, ((f.0.0, f.0.1, f.1.0, omega (arith, f.1.1)), refl))) line at x e
message_take form.Formed line at x e =
    made_takes (both_row view_row count_row) (λ x. message.Formed x.0 x.1) message_rest (IsOf
    form.Formed)
    (λ a f. (refl, (f, refl))) line at x e
message_take form.Event line at x e =
    made_takes (both_row (both_row (both_row (both_row (both_row view_row index_row) count_row)
    count_row) u32_row) count_row) (λ x. message.Event x.0.0.0.0.0 x.0.0.0.0.1 x.0.0.0.1 x.0.0.1
    x.0.1 x.1)
    message_rest (IsOf form.Event) (λ a f. (
      refl,
      (
        (f.0.0.0.0.0, f.0.0.0.0.1.0, omega (arith, f.0.0.0.0.1.1), f.0.0.0.1, f.0.0.1, f.0.1, f.1),
        refl,
      ),
    )) line at x e
message_take form.Beat line at x e =
    made_takes (both_row (both_row view_row count_row) count_row) (λ x. message.Beat x.0.0 x.0.1
    x.1) message_rest (IsOf form.Beat)
    (λ a f. (refl, ((f.0.0, f.0.1, f.1), refl))) line at x e
message_take form.Ack line at x e =
    made_takes (both_row (both_row (both_row view_row count_row) count_row) count_row) (λ x.
    message.Ack x.0.0.0 x.0.0.1 x.0.1 x.1) message_rest (IsOf form.Ack)
    (λ a f. (refl, ((f.0.0.0, f.0.0.1, f.0.1, f.1), refl))) line at x e
message_take form.Demote line at x e =
    made_takes view_row message.Demote message_rest (IsOf form.Demote) (λ a f. (refl, (f, refl)))
    line at x e

message_give : (m : ShownMessage) (line : List ℕ) (at : ℕ) (rest : List ℕ) → MessageFits m
    → EndsWord rest → drop at line ≡ message_rest m ++ rest
    → message_fields_at (message_form m) line at ≡ Ok (m, at + length (message_rest m))
unfolding message_fields_at
message_give (message.Invite view) line at rest f ends e =
    made_again view_row message.Invite view f line at rest ends e
message_give (message.Join view held accepted base lb cp top horizon) line at rest f ends e =
    made_again (both_row (both_row (both_row view_row held_row) view_row) (both_row (both_row
    three_row count_row) count_row))
    (λ x. message.Join x.0.0.0 x.0.0.1 x.0.1 x.1.0.0.0.0 x.1.0.0.0.1 x.1.0.0.1 x.1.0.1 x.1.1)
    (((view, held), accepted), ((((base, lb), cp), top), horizon))
    (((f.0, tt), f.1), ((((f.2, f.3), f.4), f.5), f.6)) line at rest ends e
message_give (message.Form view leader partner source base cp start horizon) line at rest f ends e =
    made_again (both_row (both_row (both_row view_row storers_row) server_row) (both_row three_row
    count_row))
    (λ x. message.Form x.0.0.0 x.0.0.1.0 x.0.0.1.1 x.0.1 x.1.0.0.0 x.1.0.0.1 x.1.0.1 x.1.1)
    (((view, (leader, partner)), source), (((base, cp), start), horizon))
    (((f.0, f.1), tt), (((f.2, f.3), f.4), f.5)) line at rest ends e
message_give (message.Fetch view first) line at rest f ends e =
    made_again (both_row view_row count_row) (λ x. message.Fetch x.0 x.1) (view, first) f line at
    rest ends e
message_give (message.Give view first records) line at rest f ends e =
    made_again (both_row (both_row view_row count_row) amount_row) (λ x. message.Give x.0.0 x.0.1
    x.1) ((view, first), records)
    ((f.0, f.1), (f.2, omega (arith, f.3))) line at rest ends e
message_give (message.Formed view lb) line at rest f ends e =
    made_again (both_row view_row count_row) (λ x. message.Formed x.0 x.1) (view, lb) f line at
    rest ends e
message_give (message.Event view index cp base client number) line at rest f ends e =
    made_again (both_row (both_row (both_row (both_row (both_row view_row index_row) count_row)
    count_row) u32_row) count_row) (λ x. message.Event x.0.0.0.0.0 x.0.0.0.0.1 x.0.0.0.1 x.0.0.1
    x.0.1 x.1)
    (((((view, index), cp), base), client), number)
    (((((f.0, (f.1, omega (arith, f.2))), f.3), f.4), f.5), f.6) line at rest ends e
message_give (message.Beat view cp base) line at rest f ends e =
    made_again (both_row (both_row view_row count_row) count_row) (λ x. message.Beat x.0.0 x.0.1
    x.1) ((view, cp), base)
    ((f.0, f.1), f.2) line at rest ends e
message_give (message.Ack view top lb until) line at rest f ends e =
    made_again (both_row (both_row (both_row view_row count_row) count_row) count_row) (λ x.
    message.Ack x.0.0.0 x.0.0.1 x.0.1 x.1) (((view, top), lb), until)
    (((f.0, f.1), f.2), f.3) line at rest ends e
message_give (message.Demote view) line at rest f ends e =
    made_again view_row message.Demote view f line at rest ends e

message_ends : (m : ShownMessage) (rest : List ℕ) → EndsWord rest
    → EndsWord (message_rest m ++ rest)
message_ends (message.Invite view) rest ends = refl
message_ends (message.Join view _ accepted base lb cp top horizon) rest ends = refl
message_ends (message.Form view leader partner source base cp start horizon) rest ends = refl
message_ends (message.Fetch view first) rest ends = refl
message_ends (message.Give view first records) rest ends = refl
message_ends (message.Formed view lb) rest ends = refl
message_ends (message.Event view index cp base client number) rest ends = refl
message_ends (message.Beat view cp base) rest ends = refl
message_ends (message.Ack view top lb until) rest ends = refl
message_ends (message.Demote view) rest ends = refl

message_placed : (n : MessageForm) → PlacedReader (message_fields_at n)
unfolding message_fields_at
message_placed form.Invite line at = made_placed view_row message.Invite line at
message_placed form.Join line at =
    made_placed (both_row (both_row (both_row view_row held_row) view_row) (both_row (both_row
    three_row count_row) count_row))
    (λ x. message.Join x.0.0.0 x.0.0.1 x.0.1 x.1.0.0.0.0 x.1.0.0.0.1 x.1.0.0.1 x.1.0.1 x.1.1)
    line at
message_placed form.Form line at =
    made_placed (both_row (both_row (both_row view_row storers_row) server_row) (both_row three_row
    count_row))
    (λ x. message.Form x.0.0.0 x.0.0.1.0 x.0.0.1.1 x.0.1 x.1.0.0.0 x.1.0.0.1 x.1.0.1 x.1.1)
    line at
message_placed form.Fetch line at = made_placed (both_row view_row count_row) (λ x. message.Fetch
    x.0 x.1) line at
message_placed form.Give line at =
    made_placed (both_row (both_row view_row count_row) amount_row) (λ x. message.Give x.0.0 x.0.1
    x.1) line at
message_placed form.Formed line at = made_placed (both_row view_row count_row) (λ x. message.Formed
    x.0 x.1) line at
message_placed form.Event line at =
    made_placed (both_row (both_row (both_row (both_row (both_row view_row index_row) count_row)
    count_row) u32_row) count_row) (λ x. message.Event x.0.0.0.0.0 x.0.0.0.0.1 x.0.0.0.1 x.0.0.1
    x.0.1 x.1)
    line at
message_placed form.Beat line at =
    made_placed (both_row (both_row view_row count_row) count_row) (λ x. message.Beat x.0.0 x.0.1
    x.1) line at
message_placed form.Ack line at =
    made_placed (both_row (both_row (both_row view_row count_row) count_row) count_row) (λ x.
    message.Ack x.0.0.0 x.0.0.1 x.0.1 x.1) line at
message_placed form.Demote line at = made_placed view_row message.Demote line at

message_again : (n : MessageForm)
    → value_named message_name message_forms (message_name n) ≡ Some n
message_again form.Invite = refl
message_again form.Join = refl
message_again form.Form = refl
message_again form.Fetch = refl
message_again form.Give = refl
message_again form.Formed = refl
message_again form.Event = refl
message_again form.Beat = refl
message_again form.Ack = refl
message_again form.Demote = refl

message_word : (n : MessageForm) → is_word (message_name n) ≡ true
message_word form.Invite = refl
message_word form.Join = refl
message_word form.Form = refl
message_word form.Fetch = refl
message_word form.Give = refl
message_word form.Formed = refl
message_word form.Event = refl
message_word form.Beat = refl
message_word form.Ack = refl
message_word form.Demote = refl

messages_by_name : IsByName (value_named message_name message_forms) message_fields_at
    message_name message_form message_rest MessageFits EndsWord
messages_by_name = record {
  unique = value_unique message_name message_forms;
  again = λ m fits. message_again (message_form m);
  word = message_word;
  take = λ n line at x means e. message_take n line at x e;
  give = λ m line at rest fits ends within e. message_give m line at rest fits ends e;
  ends = message_ends;
  placed = message_placed;
}

message_field : IsField message_at message_text MessageFits
unfolding message_at
message_field = respelled message_text message_parts
    (by_field (map message_name message_forms) messages_by_name)

message_all_placed : PlacedReader message_at
unfolding message_at
message_all_placed = by_placed (map message_name message_forms) messages_by_name

pub message_row : IsRow (spaced_at message_at) (λ m. spaced (message_text m)) MessageFits
message_row = spaced_row message_at message_text MessageFits message_field message_all_placed
