-- The facts on what is entered and answered, and on the limits. They stand on those of the pages and servers.
use Rattle.std.specs.Prelude.{◌≡◌, ℕ, ◌-◌, ◌/◌, ◌<◌, ◌≤◌, ◌⊎◌, true, List, [], ◌∷◌, ◌++◌, length, Some, slice_get, ⊤}
use Rattle.harp_types.specs.Update.{is_update}
use Rattle.file_tree.specs.Book.{Entry, updates, MayFollow, IsBook}
use Rattle.group_rules.specs.Limits.{IsDelta, limit, room}
use Rattle.group_rules.specs.Places.{Place, nobody}
use Rattle.group_rules.specs.State.{Answered, Empty, Group, Invite, Joins, Live, Lost, Message, Open, Packet, Page, Pulls, Rests, Saved, Server, longest_of, no_plan, no_report}
use Rattle.group_safety.specs.Words.{Each, In, IsJoining, Sure}

-- An answered update stands in the book at its index, and what the view's list begins with up to it is committed
pub record AnswerOk {E : Type 0} (page : ℕ → Page E) (committed : List E) (a : Answered E) : Type 0 where
  pub formed : (page a.view).formed ≡ true
  pub sure : Sure page committed a.view a.index
  pub positive : 0 < a.index
  pub entry : slice_get committed (a.index - 1) ≡ Some a.entry

-- needed for every later view: an answer outlives the server that gave it
pub record AnswersOk {E : Type 0} (g : Group E) : Type 0 where
  pub each : (a : Answered E) → In g.answered a → AnswerOk g.page g.committed a

-- updates that may follow these, one after the other
abbrev pub UpdatesFrom : List Entry → List Entry → Type 0
UpdatesFrom earlier [] = ⊤
UpdatesFrom earlier (e ∷ es) = (is_update e.call ≡ true) × MayFollow earlier e × UpdatesFrom (earlier ++ e ∷ []) es

-- Each view's list is a book of updates alone, and the book's updates are the committed ones
pub record Books (g : Group Entry) : Type 0 where
  pub list : (w : ℕ) → (g.page w).formed ≡ true → UpdatesFrom [] (g.page w).list
  pub book : IsBook g.book
  pub updates : updates g.book ≡ g.committed

-- a server's numbers are within the limits
pub record ServerWithin {E : Type 0} (s : Server E) : Type 0 where
  pub count : s.promised / 3 ≤ limit
  pub items : length s.items ≤ room
  pub saved : (v : Saved E) → s.saved ≡ Some v → length v.items ≤ room
  pub longest : IsDelta (longest_of s.longest)
  -- needed for the promises of an Ack: none is longer than its sender's mark says
  pub delta : s.up ≡ true → IsDelta s.delta × (s.delta ≤ longest_of s.longest)

-- needed for the count of a view that is joined by an Invite
abbrev pub BodyWithin : {E : Type 0} → Message E → Type 0
BodyWithin (Invite v) = v / 3 ≤ limit
BodyWithin m = ⊤

-- A field that has no meaning in the server's mode, or without a log, has its fixed value; so nothing stale is remembered
pub record IsTidy {E : Type 0} (s : Server E) : Type 0 where
  pub report : (IsJoining s.mode → ⊥) → s.report ≡ no_report
  pub plan : (s.mode ≡ Rests) ⊎ (s.mode ≡ Joins) → s.plan ≡ no_plan
  pub pulls : (s.mode ≡ Pulls → ⊥) → (s.wanted_from ≡ 0) × (s.staged ≡ [])
  pub heard : (s.mode ≡ Rests) ⊎ ((s.mode ≡ Open) ⊎ (s.mode ≡ Live)) → s.heard ≡ nobody
  pub acks : (s.mode ≡ Open → ⊥) → (s.told_top ≡ 0) × (s.told_lb ≡ 0) × (s.grant ≡ 0)
  pub lost : s.held ≡ Lost → (s.base ≡ s.lb) × (s.ap ≡ s.lb) × (s.cp ≡ s.lb) × (s.items ≡ []) × (s.served ≡ 0)
  pub empty : s.held ≡ Empty → (s.base ≡ 0) × (s.ap ≡ 0) × (s.cp ≡ 0) × (s.items ≡ []) × (s.served ≡ 0)

pub record Tidy {E : Type 0} (g : Group E) : Type 0 where
  pub each : (q : Place) → IsTidy (g.server q)

-- Counts and indices have at most 62 bits, a log has at most 32,768 records, and promises last 500 to 100,000
pub record Within {E : Type 0} (g : Group E) : Type 0 where
  pub server : (q : Place) → ServerWithin (g.server q)
  pub delta : IsDelta g.delta
  pub list : (w : ℕ) → (g.page w).formed ≡ true → length (g.page w).list ≤ limit
  pub packet : Each (λ (p : Packet E). BodyWithin p.body) g.packets
