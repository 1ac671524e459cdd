-- Steps behind their names: what is read is spelled so, and what is spelled so is read.
use Rattle.std.proofs.Common.{◌≡◌, ℕ, ◌+◌, ◌^◌, ◌<◌, ◌≤◌, List, [], ◌++◌, length, drop, Some, None, Ok, refl, ap, ◌∙◌, arith}
use Rattle.std.specs.Prelude.{decimal}
use Rattle.std.proofs.lemmas.List.{length-drop}
use Rattle.harp_types.specs.declared.server.ServerId.{ServerId}
use Rattle.harp_types.specs.declared.call.Call.{Call}
use Rattle.harp_types.specs.declared.cred.Cred.{Cred}
use Rattle.harp_types.specs.declared.pick.Pick.{Pick}
use Rattle.trace_types.specs.declared.step.Step.{Step}
use Rattle.trace_types.specs.declared.step.Step.TheVariants as step
use Rattle.text_spelling.specs.Text.{spaced, hex_text, among_text}
use Rattle.text_spelling.specs.Steps.{pick_text}
use Rattle.text_spelling.specs.StepFits.{PickFits, AreAnyBytes, StepFits}
use Rattle.schedule_text.specs.Fields.{spaced_at, number_at}
use Rattle.schedule_text.specs.Words.{ranged_at, all_hex_at}
use Rattle.schedule_text.proofs.Places.{Spells, read_of}
use Rattle.schedule_text.proofs.Faults.{PlacedReader}
use Rattle.schedule_text.specs.declared.form.Form.{Form}
use Rattle.schedule_text.specs.declared.form.Form.TheVariants as form
use Rattle.schedule_text.specs.Reading.{both_at, asker_at, asked_at, spaced_server_at, spaced_count_at, spaced_pick_at, form_at}
use Rattle.schedule_text.proofs.Rows.{IsRow, u32_row, server_row, count_row, both_row, spaced_row, made_takes, made_again, made_placed}
use Rattle.schedule_text.proofs.AskLaws.{asked_text, AskedFits, asked_row}
use Rattle.schedule_text.proofs.PickLaws.{pick_row, ranged_field, ranged_reader, all_hex_field, all_hex_placed}
use Rattle.schedule_text.proofs.FormTexts.{spaced_server, form_of, rest_text, IsOfForm}
use Rattle.schedule_text.proofs.PumpLaws.{pump_takes, pump_all_again, pump_pair_again, pump_placed}
use Rattle.schedule_text.proofs.PowerLaws.{number_within_row, stop_row, power_takes, power_again, power_cut_again, power_placed}

-- ---- the other rows

abbrev ask_of : ((ServerId × ℕ) × ℕ) × (Cred × Call) → Step
ask_of x = step.Ask x.0.0.0 x.0.0.1 x.0.1 x.1.0 x.1.1

abbrev asker_text : (ServerId × ℕ) × ℕ → List ℕ
asker_text x = (spaced_server x.0.0 ++ spaced (decimal x.0.1)) ++ spaced (decimal x.1)

ask_row : IsRow (both_at asker_at asked_at) (λ x. asker_text x.0 ++ asked_text x.1)
    (λ x. ((Unit {0} × (x.0.0.1 < 2 ^ 32)) × (x.0.1 < 10 ^ 18)) × AskedFits x.1)
ask_row = both_row (both_row (both_row server_row u32_row) count_row) asked_row

abbrev IsWithin : ℕ → ℕ → ℕ → Type 0
IsWithin least most n = (least ≤ n) × (n ≤ most)

ranged_row : (least most : ℕ) → most < 10 ^ 18
    → IsRow (spaced_at (ranged_at least most)) (λ n. spaced (decimal n)) (IsWithin least most)
ranged_row least most small = spaced_row (ranged_at least most) decimal (IsWithin least most)
    (ranged_field least most small) (ranged_reader least most small)

apply_row : IsRow (both_at spaced_server_at (spaced_at (ranged_at 1 100000)))
    (λ x. spaced_server x.0 ++ spaced (decimal x.1)) (λ x. Unit {0} × IsWithin 1 100000 x.1)
apply_row = both_row server_row (ranged_row 1 100000 (omega arith))

delta_row : IsRow (spaced_at (ranged_at 500 100000)) (λ n. spaced (decimal n))
    (IsWithin 500 100000)
delta_row = ranged_row 500 100000 (omega arith)

advance_row : IsRow (spaced_at (number_at 10 1000000000)) (λ n. spaced (decimal n))
    (λ n. n ≤ 1000000000)
advance_row = number_within_row 1000000000 (omega arith)

crash_row : IsRow (both_at spaced_server_at spaced_pick_at)
    (λ x. spaced_server x.0 ++ spaced (pick_text x.1)) (λ x. Unit {0} × PickFits x.1)
crash_row = both_row server_row pick_row

noise_row : IsRow (both_at spaced_server_at (spaced_at all_hex_at))
    (λ x. spaced_server x.0 ++ spaced (hex_text x.1)) (λ x. Unit {0} × AreAnyBytes x.1)
noise_row = both_row server_row
    (spaced_row all_hex_at hex_text AreAnyBytes all_hex_field all_hex_placed)

clock_row : IsRow (both_at spaced_server_at spaced_count_at)
    (λ x. spaced_server x.0 ++ spaced (decimal x.1)) (λ x. Unit {0} × (x.1 < 10 ^ 18))
clock_row = both_row server_row count_row

abbrev apply_of : ServerId × ℕ → Step
apply_of x = step.Apply x.0 x.1

abbrev crash_of : ServerId × Pick → Step
crash_of x = step.Crash x.0 x.1

abbrev stop_of : (ServerId × ℕ) × Pick → Step
stop_of x = step.Stop x.0.0 x.0.1 x.1

abbrev noise_of : ServerId × List ℕ → Step
noise_of x = step.Noise x.0 x.1

abbrev clock_of : ServerId × ℕ → Step
clock_of x = step.Clock x.0 x.1

-- ---- what is read

pub form_takes : (f : Form) (line : List ℕ) (at : ℕ) (x : Step × ℕ) → form_at f line at ≡ Ok x
    → Spells line at (rest_text x.0) x.1 × IsOfForm f x.0
unfolding form_at
form_takes form.Ask line at x e =
    made_takes ask_row ask_of rest_text (IsOfForm form.Ask)
    (λ a f. (refl, ((f.0.0.1, f.0.1, f.1.0, f.1.1), refl))) line at x e
form_takes form.Deliver line at x e =
    made_takes count_row step.Deliver rest_text (IsOfForm form.Deliver) (λ a f. (refl, (f, refl)))
    line at x e
form_takes form.Pump line at x e = pump_takes line at x e
form_takes form.Tick line at x e =
    made_takes server_row step.Tick rest_text (IsOfForm form.Tick) (λ a f. (refl, (f, refl)))
    line at x e
form_takes form.Suspect line at x e =
    made_takes server_row step.Suspect rest_text (IsOfForm form.Suspect) (λ a f. (refl, (f, refl)))
    line at x e
form_takes form.Flush line at x e =
    made_takes server_row step.Flush rest_text (IsOfForm form.Flush) (λ a f. (refl, (f, refl)))
    line at x e
form_takes form.List line at x e =
    made_takes server_row step.List rest_text (IsOfForm form.List) (λ a f. (refl, (f, refl)))
    line at x e
form_takes form.Boot line at x e =
    made_takes server_row step.Boot rest_text (IsOfForm form.Boot) (λ a f. (refl, (f, refl)))
    line at x e
form_takes form.Apply line at x e =
    made_takes apply_row apply_of rest_text (IsOfForm form.Apply) (λ a f. (refl, (f.1, refl)))
    line at x e
form_takes form.Power line at x e = power_takes line at x e
form_takes form.Crash line at x e =
    made_takes crash_row crash_of rest_text (IsOfForm form.Crash) (λ a f. (refl, (f.1, refl)))
    line at x e
form_takes form.Stop line at x e =
    made_takes stop_row stop_of rest_text (IsOfForm form.Stop)
    (λ a f. (refl, ((f.0.1, f.1), refl))) line at x e
form_takes form.Noise line at x e =
    made_takes noise_row noise_of rest_text (IsOfForm form.Noise) (λ a f. (refl, (f.1, refl)))
    line at x e
form_takes form.Clock line at x e =
    made_takes clock_row clock_of rest_text (IsOfForm form.Clock) (λ a f. (refl, (f.1, refl)))
    line at x e
form_takes form.Advance line at x e =
    made_takes advance_row step.Advance rest_text (IsOfForm form.Advance)
    (λ a f. (refl, (omega (arith, f), refl))) line at x e
form_takes form.Delta line at x e =
    made_takes delta_row step.Delta rest_text (IsOfForm form.Delta) (λ a f. (refl, (f, refl)))
    line at x e

pub form_placed : (f : Form) → PlacedReader (form_at f)
unfolding form_at
form_placed form.Ask line at = made_placed ask_row ask_of line at
form_placed form.Deliver line at = made_placed count_row step.Deliver line at
form_placed form.Pump line at = pump_placed line at
form_placed form.Tick line at = made_placed server_row step.Tick line at
form_placed form.Suspect line at = made_placed server_row step.Suspect line at
form_placed form.Flush line at = made_placed server_row step.Flush line at
form_placed form.List line at = made_placed server_row step.List line at
form_placed form.Boot line at = made_placed server_row step.Boot line at
form_placed form.Apply line at = made_placed apply_row apply_of line at
form_placed form.Power line at = power_placed line at
form_placed form.Crash line at = made_placed crash_row crash_of line at
form_placed form.Stop line at = made_placed stop_row stop_of line at
form_placed form.Noise line at = made_placed noise_row noise_of line at
form_placed form.Clock line at = made_placed clock_row clock_of line at
form_placed form.Advance line at = made_placed advance_row step.Advance line at
form_placed form.Delta line at = made_placed delta_row step.Delta line at

-- ---- what is spelled

-- the step is read where its text is the rest of the line
abbrev ReadBack : List ℕ → ℕ → Step → Type 0
ReadBack line at s = form_at (form_of s) line at ≡ Ok (s, at + length (rest_text s))

pub form_again : (s : Step) (line : List ℕ) (at : ℕ) → StepFits s → at ≤ length line
    → drop at line ≡ rest_text s ++ [] → ReadBack line at s
unfolding form_at among_text
form_again (step.Ask server client number cred asked) line at f within e =
    made_again ask_row ask_of (((server, client), number), (cred, asked))
    (((tt, f.0), f.1), (f.2, f.3)) line at [] tt e
form_again (step.Deliver packet) line at f within e =
    made_again count_row step.Deliver packet f line at [] tt e
form_again (step.Pump None) line at f within e =
    let end : at ≡ length line = omega (arith, within, ap length e, length-drop at line) in
    pump_all_again line at end ∙ ap (read_of (step.Pump None)) (omega arith)
form_again (step.Pump (Some pair)) line at f within e =
    pump_pair_again line at pair f (omega (arith, within, ap length e, length-drop at line)) e
form_again (step.Tick server) line at f within e =
    made_again server_row step.Tick server f line at [] tt e
form_again (step.Suspect server) line at f within e =
    made_again server_row step.Suspect server f line at [] tt e
form_again (step.Flush server) line at f within e =
    made_again server_row step.Flush server f line at [] tt e
form_again (step.List server) line at f within e =
    made_again server_row step.List server f line at [] tt e
form_again (step.Boot server) line at f within e =
    made_again server_row step.Boot server f line at [] tt e
form_again (step.Apply server most) line at f within e =
    made_again apply_row apply_of (server, most) (tt, f) line at [] tt e
form_again (step.Power server) line at f within e = power_again line at server e
form_again (step.PowerCut server calls p) line at f within e =
    power_cut_again line at server calls p f.0 f.1 e
form_again (step.Crash server p) line at f within e =
    made_again crash_row crash_of (server, p) (tt, f) line at [] tt e
form_again (step.Stop server calls p) line at f within e =
    made_again stop_row stop_of ((server, calls), p) ((tt, f.0), f.1) line at [] tt e
form_again (step.Noise server bytes) line at f within e =
    made_again noise_row noise_of (server, bytes) (tt, f) line at [] tt e
form_again (step.Clock server reading) line at f within e =
    made_again clock_row clock_of (server, reading) (tt, f) line at [] tt e
form_again (step.Advance millis) line at f within e =
    made_again advance_row step.Advance millis (omega (arith, f)) line at [] tt e
form_again (step.Delta millis) line at f within e =
    made_again delta_row step.Delta millis f line at [] tt e
