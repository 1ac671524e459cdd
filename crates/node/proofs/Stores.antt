-- An active server whose log has other numbers.
use Rattle.std.proofs.Common.{◌≡◌, ℕ, Bool, true, false, not, List, [], ◌∷◌, Option, None, Some, refl, sym, ap, ◌∙◌, subst, true≢false}
use Rattle.std.proofs.lemmas.List.{append-nil}
use Rattle.applier.specs.Applied.{lower}
use Rattle.cell_cache.specs.Entries.{Entries}
use Rattle.file_tree.specs.Book.{Entry}
use Rattle.group_rules.proofs.Tests.{all_true, each_of, if_is, if_not}
use Rattle.group_rules.specs.Disk.{apply, flush, flush_tests, list_tree, settled_tests}
use Rattle.group_rules.specs.Limits.{is_settled}
use Rattle.group_rules.specs.Moves.{Applying, Flushing, Saying}
use Rattle.group_rules.specs.Names.{place_of}
use Rattle.group_rules.specs.Places.{Zero, Place, is_p2}
use Rattle.group_rules.specs.State.{Lists, NoDuty, Server, no_plan}
use Rattle.harp_types.specs.declared.server.ServerId.{ServerId}
use Rattle.harp_cells.specs.declared.change.Change.{Change}
use Rattle.harp_store.specs.Disk.{AfterPart, Moments, after_changes}
use Rattle.harp_store.specs.Mark.{MarkFields}
use Rattle.node.proofs.Saying.{and_nothing, makes_so, unsaid}
use Rattle.node.specs.Active.{is_active}
use Rattle.node.specs.Node.{NodeValue, server, value}
use Rattle.node.specs.State.{Fits, is_gone, mode_in}
use Rattle.node.specs.Stored.{changes_made, flushes, log_in, log_of, stores, with_log}
use Rattle.node.specs.declared.state.State.{State}
use Rattle.node.specs.declared.state.State.TheVariants as state
use Rattle.node.specs.declared.state.Task.{Task}
use Rattle.node_outputs.proofs.Makes.{same_said}
use Rattle.node_outputs.specs.Makes.{Makes}
use Rattle.node_outputs.specs.Said.{Said, said}
use Rattle.node_outputs.specs.declared.outputs.Outputs.{Outputs}
use Rattle.promise.specs.Promise.{HorizonValue}
use Rattle.tree_log.specs.Applying.{applied_by, changes_by}
use Rattle.replica.specs.Leading.{Outer}
use Rattle.volatile_log.specs.Log.{LogValue, applied_to, lowered_to}

-- ---- the log as the node tells it

pub log_is : (me : ServerId) (mark : MarkFields) (horizon : HorizonValue) (served : ℕ)
    (duty : Task) (s : State) → is_active s ≡ true → Fits (place_of me) mark s
    → log_of (value me mark horizon served duty s) ≡ log_in s
log_is me mark horizon served duty state.Gone active fits = cc
log_is me mark horizon served duty (state.Rests kept) active fits = cc
log_is me mark horizon served duty (state.Joined kept joining) active fits = cc
log_is me mark horizon served duty (state.Pulls kept joining plan staged) active fits = cc
log_is me mark horizon served duty (state.Leads l plan) active fits =
    ap (λ n. record (l.log) { lb = n }) fits.mark.lb
log_is me mark horizon served duty (state.Follows f plan) active fits =
    ap (λ n. record (f.log) { lb = n }) fits.mark.lb

-- ---- with another log

-- its LB being the mark's, a data server is still one
pub log_fits : (q : Place) (mark : MarkFields) (s : State) (log : LogValue) (k : Entries)
    → is_active s ≡ true → is_p2 q ≡ false → Fits q mark s
    → Fits q (lower log.lb mark) (with_log s log k)
log_fits q mark state.Gone log k active here fits = cc
log_fits q mark (state.Rests kept) log k active here fits = cc
log_fits q mark (state.Joined kept joining) log k active here fits = cc
log_fits q mark (state.Pulls kept joining plan staged) log k active here fits = cc
log_fits q mark (state.Leads l plan) log k active here fits = record {
  mark = record {
    promised = fits.mark.promised;
    accepted = fits.mark.accepted;
    role = fits.mark.role;
    lb = refl;
    saved = fits.mark.saved;
  };
  storers = fits.storers;
  start = fits.start;
  horizon = fits.horizon;
  place = fits.place;
}
log_fits q mark (state.Follows f plan) log k active here fits = record {
  mark = record {
    promised = fits.mark.promised;
    accepted = fits.mark.accepted;
    role = fits.mark.role;
    lb = refl;
    saved = fits.mark.saved;
  };
  storers = fits.storers;
  start = fits.start;
  place = fits.place;
  at_base = λ witness. absurd (true≢false (sym witness ∙ here));
}

-- ---- each change of the log

abbrev pub with_ap : Server Entry → ℕ → Server Entry
with_ap s n = record s { ap = n }

pub applied_server : (me : ServerId) (mark : MarkFields) (horizon : HorizonValue) (served : ℕ)
    (duty : Task) (s : State) (n : ℕ) (k : Entries) (items : List Entry) → is_active s ≡ true
    → server (value me mark horizon served duty (with_log s (applied_to (log_in s) n) k)) items
    ≡ with_ap (server (value me mark horizon served duty s) items) n
applied_server me mark horizon served duty state.Gone n k items active = cc
applied_server me mark horizon served duty (state.Rests kept) n k items active = cc
applied_server me mark horizon served duty (state.Joined kept joining) n k items active = cc
applied_server me mark horizon served duty (state.Pulls kept joining plan staged) n k items
    active = cc
applied_server me mark horizon served duty (state.Leads l plan) n k items active = refl
applied_server me mark horizon served duty (state.Follows f plan) n k items active = refl

abbrev pub with_lb : Server Entry → ℕ → Server Entry
with_lb s n = record s { lb = n }

pub lowered_server : (me : ServerId) (mark : MarkFields) (horizon : HorizonValue) (served : ℕ)
    (duty : Task) (s : State) (n : ℕ) (k : Entries) (items : List Entry)
    → server (value me (lower n mark) horizon served duty
    (with_log s (lowered_to (log_in s) n) k)) items
    ≡ with_lb (server (value me mark horizon served duty s) items) n
lowered_server me mark horizon served duty state.Gone n k items = refl
lowered_server me mark horizon served duty (state.Rests kept) n k items = refl
lowered_server me mark horizon served duty (state.Joined kept joining) n k items = refl
lowered_server me mark horizon served duty (state.Pulls kept joining plan staged) n k items = refl
lowered_server me mark horizon served duty (state.Leads l plan) n k items = refl
lowered_server me mark horizon served duty (state.Follows f plan) n k items = refl

pub still_server : (me : ServerId) (mark : MarkFields) (horizon : HorizonValue) (served : ℕ)
    (duty : Task) (s : State) (k : Entries) (items : List Entry)
    → server (value me mark horizon served duty (with_log s (log_in s) k)) items
    ≡ server (value me mark horizon served duty s) items
still_server me mark horizon served duty state.Gone k items = refl
still_server me mark horizon served duty (state.Rests kept) k items = refl
still_server me mark horizon served duty (state.Joined kept joining) k items = refl
still_server me mark horizon served duty (state.Pulls kept joining plan staged) k items = refl
still_server me mark horizon served duty (state.Leads l plan) k items = refl
still_server me mark horizon served duty (state.Follows f plan) k items = refl

-- ---- a server that stores

settled_active : (s : State) → is_settled (mode_in s) ≡ true → is_active s ≡ true
settled_active state.Gone h = cc
settled_active (state.Rests kept) h = cc
settled_active (state.Joined kept joining) h = cc
settled_active (state.Pulls kept joining plan staged) h = cc
settled_active (state.Leads l plan) h = refl
settled_active (state.Follows f plan) h = refl

not_true : (b : Bool) → not b ≡ true → b ≡ false
not_true true h = cc
not_true false h = refl

-- it is active, and no witness
pub stores_active : (me : ServerId) (mark : MarkFields) (horizon : HorizonValue) (served : ℕ)
    (duty : Task) (s : State) (n : NodeValue) → value me mark horizon served duty s ≡ n
    → stores n ≡ true → is_active s ≡ true
stores_active me mark horizon served duty s n of h =
    settled_active s (ap (λ (x : NodeValue). is_settled x.plain.mode) of
    ∙ (each_of (settled_tests n.me n.plain) h).0)

pub stores_here : (me : ServerId) (mark : MarkFields) (horizon : HorizonValue) (served : ℕ)
    (duty : Task) (s : State) (n : NodeValue) → value me mark horizon served duty s ≡ n
    → stores n ≡ true → is_p2 (place_of me) ≡ false
stores_here me mark horizon served duty s n of h =
    ap (λ (x : NodeValue). is_p2 x.me) of
    ∙ not_true (is_p2 n.me) (each_of (settled_tests n.me n.plain) h).1.0

pub flushes_stores : (n : NodeValue) → flushes n ≡ true → stores n ≡ true
flushes_stores n h =
    let e = each_of (flush_tests n.me n.plain) h in
    all_true (settled_tests n.me n.plain) (e.0, (e.1.0, tt))

-- its log as the node tells it
pub log_at : (me : ServerId) (mark : MarkFields) (horizon : HorizonValue) (served : ℕ)
    (duty : Task) (s : State) (n : NodeValue) → value me mark horizon served duty s ≡ n
    → stores n ≡ true → Fits (place_of me) mark s → log_of n ≡ log_in s
log_at me mark horizon served duty s n of h fits =
    ap log_of (sym of) ∙ log_is me mark horizon served duty s
    (stores_active me mark horizon served duty s n of h) fits

active_with : (s : State) (log : LogValue) (k : Entries) → is_active (with_log s log k)
    ≡ is_active s
active_with state.Gone log k = refl
active_with (state.Rests kept) log k = refl
active_with (state.Joined kept joining) log k = refl
active_with (state.Pulls kept joining plan staged) log k = refl
active_with (state.Leads l plan) log k = refl
active_with (state.Follows f plan) log k = refl

-- with another log of the same LB it is one still
pub store_fits : (me : ServerId) (mark : MarkFields) (horizon : HorizonValue) (served : ℕ)
    (duty : Task) (s t : State) (n : NodeValue) (log : LogValue) (k : Entries)
    → value me mark horizon served duty s ≡ n → stores n ≡ true → Fits (place_of me) mark s
    → t ≡ with_log s log k → log.lb ≡ (log_in s).lb → Fits (place_of me) mark t
store_fits me mark horizon served duty s t n log k of h fits is low =
    let active = stores_active me mark horizon served duty s n of h in
    let lb : log.lb ≡ mark.lb = low
    ∙ ap (λ (g : LogValue). g.lb) (sym (log_is me mark horizon served duty s active fits)) in
    subst (λ (x : State). Fits (place_of me) mark x) (sym is)
    (subst (λ (m : MarkFields). Fits (place_of me) m (with_log s log k))
    (ap (λ x. lower x mark) lb)
    (log_fits (place_of me) mark s log k active
    (stores_here me mark horizon served duty s n of h) fits))

-- and with another LB, which its mark has too
pub lowered_fits : (me : ServerId) (mark low : MarkFields) (horizon : HorizonValue) (served : ℕ)
    (duty : Task) (s t : State) (n : NodeValue) (log : LogValue) (k : Entries)
    → value me mark horizon served duty s ≡ n → stores n ≡ true → Fits (place_of me) mark s
    → t ≡ with_log s log k → low ≡ lower log.lb mark → Fits (place_of me) low t
lowered_fits me mark low horizon served duty s t n log k of h fits is at =
    subst (λ (x : State). Fits (place_of me) low x) (sym is)
    (subst (λ (m : MarkFields). Fits (place_of me) m (with_log s log k)) (sym at)
    (log_fits (place_of me) mark s log k (stores_active me mark horizon served duty s n of h)
    (stores_here me mark horizon served duty s n of h) fits))

-- the log of a state with another log
pub log_with : (me : ServerId) (mark : MarkFields) (horizon : HorizonValue) (served : ℕ)
    (duty : Task) (s t : State) (log : LogValue) (k : Entries) → is_active s ≡ true
    → t ≡ with_log s log k → Fits (place_of me) mark t
    → log_of (value me mark horizon served duty t) ≡ log_in t
log_with me mark horizon served duty s t log k active is fits =
    log_is me mark horizon served duty t
    (ap is_active is ∙ active_with s log k ∙ active) fits

-- ---- what it makes

pub applied_made : (me : ServerId) (mark : MarkFields) (horizon : HorizonValue) (served : ℕ)
    (duty : Task) (s t : State) (n : NodeValue) (most : ℕ) (k : Entries) (items : List Entry)
    (clock : ℕ) (outs : Outputs) → value me mark horizon served duty s ≡ n → stores n ≡ true
    → Fits (place_of me) mark s
    → t ≡ with_log s (applied_to (log_in s) (applied_by most (log_in s))) k
    → Makes n.me clock (apply n.me (server n items) most) [] (server n items)
    (server (value me mark horizon served duty t) items) outs outs
applied_made me mark horizon served duty s t n most k items clock outs of h fits is =
    let active = stores_active me mark horizon served duty s n of h in
    let old = value me mark horizon served duty s in
    let to = applied_by most (log_in s) in
    let at : to ≡ applied_by most (log_of n) = ap (λ (g : LogValue). applied_by most g)
    (sym (log_at me mark horizon served duty s n of h fits)) in
    makes_so n.me clock (apply n.me (server n items) most)
    (Applying (applied_by most (log_of n)) ∷ []) (server n items)
    (server (value me mark horizon served duty t) items) outs outs
    (if_is (stores n) (Applying (applied_by most (log_of n)) ∷ []) [] h)
    (record {
      state = ap (λ (x : State). server (value me mark horizon served duty x) items) is
          ∙ applied_server me mark horizon served duty s to k items active
          ∙ ap (λ (x : NodeValue). with_ap (server x items) to) of
          ∙ ap (with_ap (server n items)) at;
      said = unsaid (said outs);
    })

pub flushed_made : (me : ServerId) (mark low : MarkFields) (horizon : HorizonValue) (served : ℕ)
    (duty : Task) (s t : State) (n : NodeValue) (k : Entries) (items : List Entry)
    (clock : ℕ) (outs : Outputs) → value me mark horizon served duty s ≡ n → flushes n ≡ true
    → Fits (place_of me) mark s → t ≡ with_log s (lowered_to (log_in s) (log_in s).ap) k
    → low ≡ lower (log_in s).ap mark
    → Makes n.me clock (flush n.me (server n items)) [] (server n items)
    (server (value me low horizon served duty t) items) outs outs
flushed_made me mark low horizon served duty s t n k items clock outs of h fits is at =
    let log = log_at me mark horizon served duty s n of (flushes_stores n h) fits in
    let to = (log_in s).ap in
    makes_so n.me clock (flush n.me (server n items)) (Flushing ∷ []) (server n items)
    (server (value me low horizon served duty t) items) outs outs
    (if_is (flushes n) (Flushing ∷ []) [] h)
    (record {
      state = ap (λ (x : State). server (value me low horizon served duty x) items) is
          ∙ ap (λ (m : MarkFields). server (value me m horizon served duty
          (with_log s (lowered_to (log_in s) to) k)) items) at
          ∙ lowered_server me mark horizon served duty s to k items
          ∙ ap (λ (x : NodeValue). with_lb (server x items) to) of
          ∙ ap (with_lb (server n items)) (ap (λ (g : LogValue). g.ap) (sym log));
      said = unsaid (said outs);
    })

pub listed_made : (me : ServerId) (mark : MarkFields) (horizon : HorizonValue) (served : ℕ)
    (duty : Task) (s t : State) (n : NodeValue) (k : Entries) (items : List Entry) (clock : ℕ)
    (before after : Outputs) → value me mark horizon served duty s ≡ n → stores n ≡ true
    → Fits (place_of me) mark s → t ≡ with_log s (log_in s) k
    → said after ≡ record (said before) { listed = Some (log_in s).cp }
    → Makes n.me clock (list_tree n.me (server n items)) [] (server n items)
    (server (value me mark horizon served duty t) items) before after
listed_made me mark horizon served duty s t n k items clock before after of h fits is told =
    let cp : (log_in s).cp ≡ n.plain.cp =
    ap (λ (g : LogValue). g.cp) (sym (log_at me mark horizon served duty s n of h fits)) in
    let b = said before in
    makes_so n.me clock (list_tree n.me (server n items)) (Saying (Lists n.plain.cp) ∷ [])
    (server n items) (server (value me mark horizon served duty t) items) before after
    (if_is (stores n) (Saying (Lists n.plain.cp) ∷ []) [] h)
    (record {
      state = ap (λ (x : State). server (value me mark horizon served duty x) items) is
          ∙ still_server me mark horizon served duty s k items
          ∙ ap (λ (x : NodeValue). server x items) of;
      said = told ∙ ap (λ c. record b { listed = Some c }) cp
          ∙ same_said _ _ (sym (append-nil b.committed)) (sym (append-nil b.answers))
          (sym (append-nil b.refusals)) (sym (append-nil b.sends)) refl refl refl;
    })

-- ---- a server that doesn't

pub no_apply : (n : NodeValue) (items : List Entry) (most : ℕ) → stores n ≡ false
    → apply n.me (server n items) most ≡ []
no_apply n items most h = if_not (stores n) (Applying (applied_by most (log_of n)) ∷ []) [] h

pub no_flush : (n : NodeValue) (items : List Entry) → flushes n ≡ false
    → flush n.me (server n items) ≡ []
no_flush n items h = if_not (flushes n) (Flushing ∷ []) [] h

pub no_list : (n : NodeValue) (items : List Entry) → stores n ≡ false
    → list_tree n.me (server n items) ≡ []
no_list n items h = if_not (stores n) (Saying (Lists n.plain.cp) ∷ []) [] h

pub no_changes : (n : NodeValue) (most : ℕ) → stores n ≡ false → changes_made most n ≡ []
no_changes n most h = if_not (stores n) (changes_by most (log_of n)) [] h

pub changes_at : (me : ServerId) (mark : MarkFields) (horizon : HorizonValue) (served : ℕ)
    (duty : Task) (s : State) (n : NodeValue) (most : ℕ)
    → value me mark horizon served duty s ≡ n → stores n ≡ true → Fits (place_of me) mark s
    → changes_made most n ≡ changes_by most (log_in s)
changes_at me mark horizon served duty s n most of h fits =
    if_is (stores n) (changes_by most (log_of n)) [] h
    ∙ ap (λ (g : LogValue). changes_by most g)
    (log_at me mark horizon served duty s n of h fits)

pub none_done : (changes : List Change) (told : Option Moments) → changes ≡ []
    → told ≡ after_changes changes told
unfolding after_changes
none_done changes told none = ap (λ (xs : List Change). after_changes xs told) (sym none)

pub none_part : (changes : List Change) (told : Option Moments) → AfterPart changes told told
unfolding after_changes
none_part changes told = (0, refl)

-- ---- a listing that a leader or a partner said, whatever the rest of the server is

abbrev pub any_outer : Outer
any_outer = record {
  me = Zero;
  plan = no_plan;
  longest = None;
  served = 0;
  duty = NoDuty;
  delta = 0;
  horizon = 0;
}

pub said_listed : (b a : Said) (n : ℕ) → a ≡ record (and_nothing b) { listed = Some n }
    → a ≡ record b { listed = Some n }
said_listed b a n h = h ∙ ap (λ (x : Said). record x { listed = Some n }) (sym (unsaid b))

-- ---- AP of an active server's log

pub ap_is : (me : ServerId) (mark : MarkFields) (horizon : HorizonValue) (served : ℕ)
    (duty : Task) (s : State) (n : NodeValue) → value me mark horizon served duty s ≡ n
    → stores n ≡ true → Fits (place_of me) mark s
    → (value me mark horizon served duty s).plain.ap ≡ (log_in s).ap
ap_is me mark horizon served duty s n of h fits =
    ap (λ (g : LogValue). g.ap) (log_is me mark horizon served duty s
    (stores_active me mark horizon served duty s n of h) fits)

-- ---- a server with another log goes on

alive : (s : State) → is_active s ≡ true → is_gone s ≡ false
alive state.Gone h = cc
alive (state.Rests kept) h = refl
alive (state.Joined kept joining) h = refl
alive (state.Pulls kept joining plan staged) h = refl
alive (state.Leads l plan) h = refl
alive (state.Follows f plan) h = refl

pub alive_with : (s t : State) (log : LogValue) (k : Entries) → is_active s ≡ true
    → t ≡ with_log s log k → is_gone t ≡ false
alive_with s t log k active is = alive t (ap is_active is ∙ active_with s log k ∙ active)

-- ---- the mark of a flush

pub lower_is : (me : ServerId) (mark : MarkFields) (horizon : HorizonValue) (served : ℕ)
    (duty : Task) (s : State) (n : NodeValue) → value me mark horizon served duty s ≡ n
    → flushes n ≡ true → Fits (place_of me) mark s
    → lower (log_in s).ap mark ≡ lower n.plain.ap n.mark
lower_is me mark horizon served duty s n of h fits =
    ap (λ (k : ℕ). lower k mark)
    (sym (ap_is me mark horizon served duty s n of (flushes_stores n h) fits))
    ∙ ap (λ (x : NodeValue). lower x.plain.ap x.mark) of
