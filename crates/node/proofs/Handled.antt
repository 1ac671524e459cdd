-- Calls that make no moves, the same moves, or more of them, and those that fail.
use Rattle.std.proofs.Common.{◌≡◌, ℕ, Bool, false, List, [], ◌∷◌, ◌++◌, Option, refl, ap, sym, ◌∙◌, subst, inl, if◌then◌else◌}
use Rattle.std.specs.Prelude.{Err, IsErrAnd, MatchResult, Ok, OnErr, OnOk, Result, ⊤}
use Rattle.event_record.specs.declared.record.RecordFields.{RecordFields}
use Rattle.file_tree.specs.Book.{Entry}
use Rattle.group_rules.specs.Moves.{Move, Sending, acts}
use Rattle.group_rules.specs.Open.{and_then}
use Rattle.group_rules.specs.Names.{place_of}
use Rattle.group_rules.specs.Places.{Place}
use Rattle.group_rules.specs.State.{Saved, Server}
use Rattle.harp_store.specs.Disk.{Moments, after_step, with_mark}
use Rattle.harp_store.specs.declared.store.StoreFault.{StoreFault}
use Rattle.harp_store.specs.declared.store.StoreFault.TheVariants as store
use Rattle.harp_store.specs.Mark.{MarkFields}
use Rattle.harp_types.specs.Streams.{Rose}
use Rattle.harp_types.specs.declared.peer.Peer.{Peer}
use Rattle.harp_types.specs.declared.server.ServerId.{ServerId}
use Rattle.idle_log.specs.declared.kept.Kept.{Kept}
use Rattle.node.proofs.Cached.{cached_then}
use Rattle.node.proofs.Calls.{AreSilent, any_peers, mute}
use Rattle.node.proofs.Marks.{IsAlike, alike_then, disk_as, mark_as, marks_none, part_as, part_then}
use Rattle.node.proofs.Saying.{unsaid}
use Rattle.node.proofs.Sent.{AreSent, sent_silent}
use Rattle.node.proofs.Stocks.{AreIdle, idle_sent, idle_stock, stocks_idle, stocks_on, stocks_so, stocks_then}
use Rattle.node.specs.Disk.{MayLeave, disk_after, fault_of, marked_by, write_mark}
use Rattle.node.specs.Forming.{joined_node, pulling_node}
use Rattle.node.specs.Handles.{Acts, Fails, Handles, Moves}
use Rattle.node.specs.Node.{NodeValue, server, value}
use Rattle.node.specs.State.{IsKept}
use Rattle.node.specs.Stock.{stock}
use Rattle.node.specs.declared.fault.NodeFault.{NodeFault}
use Rattle.node.specs.declared.pull.Pull.{Pull}
use Rattle.node.specs.declared.state.Joining.{Joining}
use Rattle.node.specs.declared.state.State.{State}
use Rattle.node.specs.declared.state.State.TheVariants as state
use Rattle.node.specs.declared.state.Task.{Task}
use Rattle.node.specs.declared.fault.NodeFault.TheVariants.{Halted, NoMemory, StoreFailed}
use Rattle.node_outputs.proofs.Makes.{makes_then}
use Rattle.node_outputs.specs.Makes.{Makes}
use Rattle.node_outputs.specs.Said.{said}
use Rattle.node_outputs.specs.declared.outputs.Outputs.{Outputs}
use Rattle.promise.specs.Promise.{HorizonValue}

-- a server whose saved log has other records
abbrev pub saving : NodeValue → Option (Saved Entry) → Server Entry
saving n saved = record (n.plain) { saved = saved }

-- whatever its saved log has, the moves are the same
abbrev pub AreSame : NodeValue → Moves → Moves → Type 0
AreSame n moves others = (saved : Option (Saved Entry))
    → moves n.me (saving n saved) ≡ others n.me (saving n saved)

abbrev pub no_moves : Moves
no_moves q s = []

-- nothing was done
pub acts_none : (rests : Type 0) (clock : ℕ) (came : List RecordFields) (n new : NodeValue)
    (outs : Outputs) (disk : Option Moments) → new ≡ n → n.halted ≡ false
    → Acts rests clock no_moves came [] n new outs outs disk disk
acts_none rests clock came n new outs disk same up = record {
  me = ap (λ (x : NodeValue). x.me) same;
  up = ap (λ (x : NodeValue). x.halted) same ∙ up;
  makes = λ h items. record {
    state = ap (λ (x : NodeValue). server x items) same;
    said = unsaid (said outs);
  };
  stock = λ items clock list askers. ap stock same;
  cached = inl (ap (λ (x : NodeValue). x.cached) same);
  mark = ap (λ (x : NodeValue). x.mark) same;
  written = refl;
}

-- the same moves by another name
pub acts_so : (rests : Type 0) (clock : ℕ) (moves others : Moves) (came : List RecordFields)
    (askers : List Peer) (old new : NodeValue) (before after : Outputs)
    (disk left : Option Moments) → AreSame old moves others
    → Acts rests clock others came askers old new before after disk left
    → Acts rests clock moves came askers old new before after disk left
acts_so rests clock moves others came askers old new before after disk left same h = record {
  me = h.me;
  up = h.up;
  makes = λ r items. subst (λ (ms : List (Move Entry)). Makes old.me clock ms askers
      (server old items) (server new items) before after)
      (sym (same (server old items).saved)) (h.makes r items);
  stock = λ items. stocks_so came old.me (server old items) (moves old.me (server old items))
      (others old.me (server old items)) (stock old) (stock new)
      (same (server old items).saved) (h.stock items);
  cached = h.cached;
  mark = h.mark ∙ ap (marked_by old.mark) (sym (same old.plain.saved));
  written = h.written ∙ ap (λ (ms : List (Move Entry)). disk_after ms new.mark disk)
      (sym (same old.plain.saved));
}

pub fails_so : (moves others : Moves) (old new : NodeValue) (disk left : Option Moments)
    (faults risen : ℕ) (why : NodeFault) → AreSame old moves others
    → Fails others old new disk left faults risen why
    → Fails moves old new disk left faults risen why
fails_so moves others old new disk left faults risen why same h = record {
  me = h.me;
  part = subst (λ (ms : List (Move Entry)). MayLeave ms (marked_by old.mark ms) disk left)
      (sym (same old.plain.saved)) h.part;
  running = h.running;
  rose = h.rose;
}

pub handles_so : (r : Result (Unit {0}) NodeFault) (rests : Type 0) (clock : ℕ)
    (moves others : Moves) (came : List RecordFields) (askers : List Peer)
    (old new : NodeValue) (before after : Outputs) (disk left : Option Moments)
    (faults risen : ℕ) → AreSame old moves others
    → Handles r rests clock others came askers old new before after disk left faults risen
    → Handles r rests clock moves came askers old new before after disk left faults risen
handles_so (Ok x) rests clock moves others came askers old new before after disk left faults
    risen same h =
    acts_so rests clock moves others came askers old new before after disk left same h
handles_so (Err why) rests clock moves others came askers old new before after disk left faults
    risen same h = fails_so moves others old new disk left faults risen why same h

-- no moves, by their tests
pub acts_idle : (rests : Type 0) (clock : ℕ) (moves : Moves) (came : List RecordFields)
    (n new : NodeValue) (outs : Outputs) (disk : Option Moments) → new ≡ n → n.halted ≡ false
    → AreSame n moves no_moves → Acts rests clock moves came [] n new outs outs disk disk
acts_idle rests clock moves came n new outs disk same up none =
    acts_so rests clock moves no_moves came [] n new outs outs disk disk none
    (acts_none rests clock came n new outs disk same up)

-- ---- what failed

pub no_memory : (moves : Moves) (old new : NodeValue) (disk left : Option Moments)
    (faults risen : ℕ) → new.me ≡ old.me
    → (let ms = moves old.me old.plain in MayLeave ms (marked_by old.mark ms) disk left)
    → Fails moves old new disk left faults risen NoMemory
no_memory moves old new disk left faults risen me part =
    record { me = me; part = part; running = λ h. cc; rose = λ h. cc }

-- for want of memory
pub fails_memory : (r : Result (Unit {0}) NodeFault) (rests : Type 0) (clock : ℕ) (moves : Moves)
    (came : List RecordFields) (askers : List Peer) (old new : NodeValue)
    (before after : Outputs) (disk left : Option Moments) (faults risen : ℕ)
    → IsErrAnd r (λ why. why ≡ NoMemory) → new.me ≡ old.me
    → (let ms = moves old.me old.plain in MayLeave ms (marked_by old.mark ms) disk left)
    → Handles r rests clock moves came askers old new before after disk left faults risen
fails_memory (Ok x) rests clock moves came askers old new before after disk left faults risen
    is me part = absurd is
fails_memory (Err why) rests clock moves came askers old new before after disk left faults risen
    is me part = subst (Fails moves old new disk left faults risen) (sym is)
    (no_memory moves old new disk left faults risen me part)

-- by a call of the store
pub fails_stored : {B : Type 0} (r : Result (Unit {0}) NodeFault) (call : Result B StoreFault)
    (given : StoreFault) (rests : Type 0) (clock : ℕ) (moves : Moves) (came : List RecordFields)
    (askers : List Peer) (old new : NodeValue) (before after : Outputs)
    (disk left : Option Moments) (faults risen : ℕ)
    → IsErrAnd r (λ why. why ≡ fault_of given) → call ≡ Err given
    → (call ≡ Err store.Failed → Rose faults risen) → new.me ≡ old.me
    → (let ms = moves old.me old.plain in MayLeave ms (marked_by old.mark ms) disk left)
    → Handles r rests clock moves came askers old new before after disk left faults risen
fails_stored (Ok x) call given rests clock moves came askers old new before after disk left faults
    risen is was rose me part = absurd is
fails_stored (Err why) call store.Failed rests clock moves came askers old new before after disk
    left faults risen is was rose me part = subst (Fails moves old new disk left faults risen)
    (sym is) (record { me = me; part = part; running = λ h. cc; rose = λ h. rose was })
fails_stored (Err why) call store.NoMemory rests clock moves came askers old new before after disk
    left faults risen is was rose me part = subst (Fails moves old new disk left faults risen)
    (sym is) (no_memory moves old new disk left faults risen me part)

-- as another call did
pub fails_as : (r : Result (Unit {0}) NodeFault) (given : NodeFault) (rests : Type 0) (clock : ℕ)
    (moves : Moves) (came : List RecordFields) (askers : List Peer) (old new : NodeValue)
    (before after : Outputs) (disk left : Option Moments) (faults risen : ℕ)
    → IsErrAnd r (λ why. why ≡ given) → Fails moves old new disk left faults risen given
    → Handles r rests clock moves came askers old new before after disk left faults risen
fails_as (Ok x) given rests clock moves came askers old new before after disk left faults risen is
    h = absurd is
fails_as (Err why) given rests clock moves came askers old new before after disk left faults risen
    is h = subst (Fails moves old new disk left faults risen) (sym is) h

-- what a call gave, by what another one gave
pub both_ways : {P Q : Type 0} {F G : NodeFault → Type 0} (r : Result (Unit {0}) NodeFault)
    → MatchResult r (λ done. P) F → (P → Q) → ((why : NodeFault) → F why → G why)
    → MatchResult r (λ done. Q) G
both_ways (Ok x) h done failed = done h
both_ways (Err why) h done failed = failed why h

pub and_ok : (P Q : Type 0) (F : NodeFault → Type 0) (r : Result (Unit {0}) NodeFault)
    → MatchResult r (λ done. P) F → OnOk r Q → MatchResult r (λ done. P × Q) F
and_ok P Q F (Ok x) h k = (h, k)
and_ok P Q F (Err why) h k = h

-- ---- a server whose state was taken out

pub joined_now : (me : ServerId) (mark : MarkFields) (horizon : HorizonValue) (served : ℕ)
    (duty : Task) (s : State) (n : NodeValue) (k : Kept) (j : Joining)
    → value me mark horizon served duty s ≡ n → s ≡ state.Joined k j
    → IsKept (place_of me) mark k
    → joined_node (value me mark horizon served duty state.Gone) k j ≡ n
joined_now me mark horizon served duty s n k j is at kept =
    let joined = value me mark horizon served duty (state.Joined k j) in
    let same : joined_node (value me mark horizon served duty state.Gone) k j ≡ joined =
    ap (λ (lb : ℕ). record joined { plain = record (joined.plain) { lb = lb } }) kept.lb in
    same ∙ ap (value me mark horizon served duty) (sym at) ∙ is

pub pulled_now : (me : ServerId) (mark : MarkFields) (horizon : HorizonValue) (served : ℕ)
    (duty : Task) (s : State) (n : NodeValue) (p : Pull)
    → value me mark horizon served duty s ≡ n
    → s ≡ state.Pulls p.kept p.joining p.form p.staged → IsKept (place_of me) mark p.kept
    → pulling_node (value me mark horizon served duty state.Gone) p ≡ n
pulled_now me mark horizon served duty s n p is at kept =
    let pulls = value me mark horizon served duty
    (state.Pulls p.kept p.joining p.form p.staged) in
    let same : pulling_node (value me mark horizon served duty state.Gone) p ≡ pulls =
    ap (λ (lb : ℕ). record pulls { plain = record (pulls.plain) { lb = lb } }) kept.lb in
    same ∙ ap (value me mark horizon served duty) (sym at) ∙ is

-- ---- and then moves that write no mark, and answer nobody

-- what was done leaves what a later failure may leave
pub part_of_acts : (rests : Type 0) (clock : ℕ) (moves others : Moves) (came : List RecordFields)
    (askers : List Peer) (old new : NodeValue) (before after : Outputs)
    (disk left : Option Moments)
    → Acts rests clock moves came askers old new before after disk left
    → IsAlike (others old.me old.plain) (moves old.me old.plain)
    → let ms = others old.me old.plain in MayLeave ms (marked_by old.mark ms) disk left
part_of_acts rests clock moves others came askers old new before after disk left h alike =
    part_then (others old.me old.plain) (moves old.me old.plain) old.mark new.mark disk left alike
    h.mark h.written

-- moves that answer nobody, leave the records and who waits, and write no mark
pub record IsQuiet (moves : Moves) : Type 0 where
  pub silent : (q : Place) (s : Server Entry) → AreSilent (moves q s)
  pub idle : (q : Place) (s : Server Entry) → AreIdle (moves q s)
  pub unmarked : (q : Place) (s : Server Entry) → write_mark (moves q s) ≡ false

abbrev pub then_moves : (clock : ℕ) → Moves → Moves → Moves
then_moves clock first more q s = and_then q clock s (first q s) (more q)

-- one call after the other
pub acts_then : (rests : Type 0) (clock : ℕ) (first more : Moves) (came : List RecordFields)
    (askers : List Peer) (old mid new : NodeValue) (before between after : Outputs)
    (disk left end : Option Moments)
    → Acts rests clock first came askers old mid before between disk left
    → Acts ⊤ clock more came [] mid new between after left end
    → IsQuiet more
    → Acts rests clock (then_moves clock first more) came askers old new before after disk end
acts_then rests clock first more came askers old mid new before between after disk left end h k
    quiet =
    let q = old.me in
    let ms = first q old.plain in
    let ns = more q (acts q clock old.plain ms) in
    let alike = alike_then ms ns (quiet.unmarked q (acts q clock old.plain ms)) in
    let unmarked = quiet.unmarked mid.me mid.plain in
    let same : new.mark ≡ mid.mark =
    k.mark ∙ marks_none mid.mark (more mid.me mid.plain) unmarked in
    let kept : end ≡ left = k.written ∙ ap (λ (b : Bool). if b
    then after_step (with_mark new.mark) left else left) unmarked in
    record {
      me = k.me ∙ h.me;
      up = k.up;
      makes = λ r items. let s = server old items in
          let t = server mid items in
          let u = server new items in
          let second : Makes q clock (more q t) [] t u between after =
          subst (λ (p : Place). Makes p clock (more p t) [] t u between after) h.me
          (k.makes tt items) in
          let both = makes_then q clock (first q s) (more q t) askers [] s t u before between after
          (h.makes r items) second (mute (more q t) (quiet.silent q t)) in
          subst (λ (x : Server Entry). Makes q clock (first q s ++ more q x) askers s u before
          after) (h.makes r items).state both;
      stock = λ items. let s = server old items in
          let t = server mid items in
          let ns = more q (acts q clock s (first q s)) in
          λ clk list others.
          let leaves : stock new ≡ stock mid = k.stock items clk list others
          ∙ idle_stock mid.me clk list came others t (more mid.me t) (stock mid)
          (quiet.idle mid.me t) in
          stocks_then came q s (first q s) ns (stock old) (stock new)
          (stocks_on came q s (first q s) (stock old) (stock mid) (stock new) (h.stock items)
          leaves) (quiet.idle q (acts q clock s (first q s))) clk list others;
      cached = cached_then old.cached mid.cached new.cached h.cached k.cached;
      mark = mark_as (ms ++ ns) ms old.mark new.mark alike (same ∙ h.mark);
      written = disk_as (ms ++ ns) ms mid.mark new.mark disk end alike same (kept ∙ h.written);
    }

-- what was done leaves what the whole may leave
pub part_then_more : (rests : Type 0) (clock : ℕ) (first more : Moves)
    (came : List RecordFields) (askers : List Peer) (old new : NodeValue)
    (before after : Outputs) (disk left : Option Moments)
    → Acts rests clock first came askers old new before after disk left → IsQuiet more
    → let ms = then_moves clock first more old.me old.plain in
    MayLeave ms (marked_by old.mark ms) disk left
part_then_more rests clock first more came askers old new before after disk left h quiet =
    let q = old.me in
    let s = acts q clock old.plain (first q old.plain) in
    part_of_acts rests clock first (then_moves clock first more) came askers old new before after
    disk left h (alike_then (first q old.plain) (more q s) (quiet.unmarked q s))

-- and what its first call left
pub fails_then : (clock : ℕ) (first more : Moves) (old new : NodeValue)
    (disk left : Option Moments) (faults risen : ℕ) (why : NodeFault)
    → Fails first old new disk left faults risen why → IsQuiet more
    → Fails (then_moves clock first more) old new disk left faults risen why
fails_then clock first more old new disk left faults risen why h quiet =
    let q = old.me in
    let s = acts q clock old.plain (first q old.plain) in
    record {
      me = h.me;
      part = part_as (first q old.plain ++ more q s) (first q old.plain) old.mark disk left
          (alike_then (first q old.plain) (more q s) (quiet.unmarked q s)) h.part;
      running = h.running;
      rose = h.rose;
    }

-- ---- messages

sent_unmarked : (ms : List (Move Entry)) → AreSent ms → write_mark ms ≡ false
sent_unmarked [] h = refl
sent_unmarked (Sending to m ∷ ms) h = sent_unmarked ms h.1
sent_unmarked (m ∷ ms) h = absurd h.0

pub sent_quiet : (moves : Moves) → ((q : Place) (s : Server Entry) → AreSent (moves q s))
    → IsQuiet moves
sent_quiet moves h = record {
  silent = λ q s. sent_silent (moves q s) (h q s);
  idle = λ q s. idle_sent (moves q s) (h q s);
  unmarked = λ q s. sent_unmarked (moves q s) (h q s);
}

-- a server that sends these
pub acts_sent : (rests : Type 0) (clock : ℕ) (moves : Moves) (came : List RecordFields)
    (n : NodeValue) (before after : Outputs) (disk : Option Moments) → n.halted ≡ false
    → ((q : Place) (s : Server Entry) → AreSent (moves q s))
    → ((items : List Entry) → let s = server n items in
    Makes n.me clock (moves n.me s) [] s s before after)
    → Acts rests clock moves came [] n n before after disk disk
acts_sent rests clock moves came n before after disk up sent made =
    let none = sent_unmarked (moves n.me n.plain) (sent n.me n.plain) in
    record {
      me = refl;
      up = up;
      makes = λ r items. made items;
      stock = λ items. stocks_idle came n.me (server n items) (moves n.me (server n items))
          (stock n) (stock n) (idle_sent _ (sent n.me (server n items))) refl;
      cached = inl refl;
      mark = sym (marks_none n.mark (moves n.me n.plain) none);
      written = ap (λ (b : Bool). if b then after_step (with_mark n.mark) disk else disk) (sym none);
    }

-- ---- whoever waits

pub acts_asked : (rests : Type 0) (clock : ℕ) (moves : Moves) (came : List RecordFields)
    (askers : List Peer) (old new : NodeValue) (before after : Outputs)
    (disk left : Option Moments) → ((s : Server Entry) → AreSilent (moves old.me s))
    → Acts rests clock moves came [] old new before after disk left
    → Acts rests clock moves came askers old new before after disk left
acts_asked rests clock moves came askers old new before after disk left silent h = record {
  me = h.me;
  up = h.up;
  makes = λ r items. let s = server old items in
      any_peers old.me clock (moves old.me s) askers s (server new items) before after
      (mute (moves old.me s) (silent s)) (h.makes r items);
  stock = h.stock;
  cached = h.cached;
  mark = h.mark;
  written = h.written;
}

pub handles_asked : (r : Result (Unit {0}) NodeFault) (rests : Type 0) (clock : ℕ) (moves : Moves)
    (came : List RecordFields) (askers : List Peer) (old new : NodeValue)
    (before after : Outputs) (disk left : Option Moments) (faults risen : ℕ)
    → ((s : Server Entry) → AreSilent (moves old.me s))
    → Handles r rests clock moves came [] old new before after disk left faults risen
    → Handles r rests clock moves came askers old new before after disk left faults risen
handles_asked (Ok x) rests clock moves came askers old new before after disk left faults risen
    silent h = acts_asked rests clock moves came askers old new before after disk left silent h
handles_asked (Err why) rests clock moves came askers old new before after disk left faults risen
    silent h = h

-- whatever the moves rest on
pub handles_where : (r : Result (Unit {0}) NodeFault) (rests : Type 0) (clock : ℕ) (moves : Moves)
    (came : List RecordFields) (askers : List Peer) (old new : NodeValue)
    (before after : Outputs) (disk left : Option Moments) (faults risen : ℕ)
    → Handles r ⊤ clock moves came askers old new before after disk left faults risen
    → Handles r rests clock moves came askers old new before after disk left faults risen
handles_where (Ok x) rests clock moves came askers old new before after disk left faults risen h =
    record {
      me = h.me;
      up = h.up;
      makes = λ r items. h.makes tt items;
      stock = h.stock;
      cached = h.cached;
      mark = h.mark;
      written = h.written;
    }
handles_where (Err why) rests clock moves came askers old new before after disk left faults risen
    h = h

-- ---- what a call gave, part by part

pub me_of : (r : Result (Unit {0}) NodeFault) (rests : Type 0) (clock : ℕ) (moves : Moves)
    (came : List RecordFields) (askers : List Peer) (old new : NodeValue)
    (before after : Outputs) (disk left : Option Moments) (faults risen : ℕ)
    → Handles r rests clock moves came askers old new before after disk left faults risen
    → new.me ≡ old.me
me_of (Ok x) rests clock moves came askers old new before after disk left faults risen h = h.me
me_of (Err why) rests clock moves came askers old new before after disk left faults risen h = h.me

pub ok_of : {P Q : Type 0} (F : NodeFault → Type 0) (r : Result (Unit {0}) NodeFault)
    → MatchResult r (λ done. P) F → (P → Q) → OnOk r Q
ok_of F (Ok x) h f = f h
ok_of F (Err why) h f = tt

pub ok_each : {A B : Type 0} (P : A → B → Type 0) (F : A → B → NodeFault → Type 0)
    (r : Result (Unit {0}) NodeFault)
    → ((a : A) (b : B) → MatchResult r (λ done. P a b) (F a b)) → OnOk r ((a : A) (b : B) → P a b)
ok_each P F (Ok x) h = h
ok_each P F (Err why) h = tt

pub err_each : {A B : Type 0} (P : A → B → Type 0) {F : A → B → NodeFault → Type 0}
    {Q : A → B → Type 0} (r : Result (Unit {0}) NodeFault)
    → ((a : A) (b : B) → MatchResult r (λ done. P a b) (F a b))
    → ((a : A) (b : B) (why : NodeFault) → F a b why → Q a b) → OnErr r ((a : A) (b : B) → Q a b)
err_each P (Ok x) h f = tt
err_each P (Err why) h f = λ a b. f a b why (h a b)

pub runs_on : (P : Type 0) {F : NodeFault → Type 0} (r : Result (Unit {0}) NodeFault)
    → MatchResult r (λ done. P) F → ((why : NodeFault) → F why → why ≡ Halted → ⊥)
    → r ≡ Err Halted → ⊥
runs_on P (Ok x) h f is = cc
runs_on P (Err why) h f is = let same : why ≡ Halted = cc in f why h same

pub rose_of : (P : Type 0) {R : Type 0} {F : NodeFault → Type 0} (r : Result (Unit {0}) NodeFault)
    → MatchResult r (λ done. P) F → ((why : NodeFault) → F why → why ≡ StoreFailed → R)
    → r ≡ Err StoreFailed → R
rose_of P (Ok x) h f is = cc
rose_of P (Err why) h f is = let same : why ≡ StoreFailed = cc in f why h same
