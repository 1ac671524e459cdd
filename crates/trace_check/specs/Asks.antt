-- What is kept of asks.
use Rattle.std.specs.Prelude.{◌≡◌, ◌↔◌, ◌⊎◌, ℕ, Bool, true, false, List, ◌++◌, Contains, Option, Some, None, Vec}
use Rattle.std.specs.Global.{Global}
use Rattle.std.specs.List.{list_any}
use Rattle.std.specs.Ordering.{is_eq, nat_cmp, ordering_then}
use Rattle.std.specs.Cmp.Lexicographic.{slice_cmp}
use Rattle.std.specs.declared.cmp.Ordering.{Ordering}
use Rattle.harp_base.specs.Calls.{CallFits, call_bytes}
use Rattle.harp_base.specs.Names.{CredFits, cred_bytes}
use Rattle.harp_types.specs.declared.call.Call.{Call}
use Rattle.harp_types.specs.declared.cred.Cred.{Cred}
use Rattle.harp_types.specs.declared.server.ServerId.{ServerId}
use Rattle.trace_types.specs.declared.step.Step.TheVariants as step
use Rattle.trace_types.specs.declared.line.Line.{Line}
use Rattle.trace_types.specs.declared.line.Line.TheVariants as line
use Rattle.trace_claims.specs.Trace.{Trace, steps}
use Rattle.trace_check.specs.declared.asks.Asks.{Asks}

-- a client, its number, and the bytes of its caller and call
abbrev pub AskKey : Type 0
AskKey = ℕ × ℕ × List ℕ

abbrev pub key_of : ℕ × ℕ × Vec ℕ Global → AskKey
key_of ask = (ask.0, ask.1, ask.2.items)

-- the one spelling of a caller and a call
abbrev pub asked_bytes : Cred → Call → List ℕ
asked_bytes cred call = cred_bytes cred ++ call_bytes call

abbrev pub ask_key : (client number : ℕ) → Cred → Call → AskKey
ask_key client number cred call = (client, number, asked_bytes cred call)

abbrev pub AskFits : Cred → Call → Type 0
AskFits cred call = CredFits cred × CallFits call

-- what a set of them compares by
abbrev pub ask_cmp : AskKey → AskKey → Ordering
ask_cmp x y = ordering_then (ordering_then (nat_cmp x.0 y.0) (nat_cmp x.1 y.1))
    (slice_cmp nat_cmp x.2 y.2)

-- this ask is kept
abbrev pub Has : Asks → AskKey → Type 0
Has asks ask = list_any (λ k. is_eq (ask_cmp ask (key_of k))) asks.asked.keys ≡ true

-- an ask of a trace that is kept so
pub record AskedAs (trace : Trace) (ask : AskKey) : Type 0 where
  pub server : ServerId
  pub client : ℕ
  pub number : ℕ
  pub cred : Cred
  pub call : Call
  pub stands : Contains (steps trace) (step.Ask server client number cred call)
  pub is : ask ≡ ask_key client number cred call
  pub fits : AskFits cred call

-- the asks of these lines are kept, and no others
pub record AreAsksOf (asks : Asks) (trace : Trace) : Type 0 where
  pub each : (server : ServerId) (client number : ℕ) (cred : Cred) (call : Call)
      → Contains (steps trace) (step.Ask server client number cred call)
      → Has asks (ask_key client number cred call)
  pub alone : (ask : AskKey) → Has asks ask → AskedAs trace ask

-- this ask is kept too, and nothing else changes
abbrev pub IsAdded : AskKey → Asks → Asks → Type 0
IsAdded ask old new = (k : AskKey) → Has new k ↔ (Has old k ⊎ (k ≡ ask))

-- whether a line begins an ask
abbrev pub begins_ask : Line → Bool
begins_ask (line.Event (step.Ask server client number cred call)) = true
begins_ask l = false

-- the ask that a line begins, if any
abbrev pub TellsAsk : Option AskKey → Line → Type 0
TellsAsk None l = begins_ask l ≡ false
TellsAsk (Some ask) (line.Event (step.Ask server client number cred call)) =
    (ask ≡ ask_key client number cred call) × AskFits cred call
TellsAsk (Some ask) l = ⊥
