use Rattle.std.proofs.Common.{◌≡◌, [], inl, le_refl, refl, subst, sym, ap, ◌++◌, ◌∙◌}
use Rattle.std.proofs.lemmas.Result.{IfOk-from_err, on_err_weaker, on_ok_weaker}
use Rattle.harp_store.specs.Mark.{MarkFields}
use Rattle.group_rules.specs.Joining.{suspect}
use Rattle.group_rules.specs.Names.{place_of}
use Rattle.group_rules.specs.Tick.{tick}
use Rattle.node.proofs.Brought.{both_ok, brings_so, came_disk, came_mark, came_part, err_all, marks_cached, none_left, ok_all}
use Rattle.node.proofs.Cached.{stays_cached}
use Rattle.node.proofs.Calls.{any_peers}
use Rattle.node.proofs.Faults.{once_done, once_memory}
use Rattle.node.proofs.Handled.{err_each, me_of, ok_each, ok_of, rose_of, runs_on}
use Rattle.node.proofs.Marks.{alike_none, disk_as, mark_as}
use Rattle.node.proofs.Stepped.{mute_tick, tick_unmarked}
use Rattle.node.specs.Disk.{disk_after, marked_by}
use Rattle.node.specs.Input.{FillsSized, input_of, peers_of, came}
use Rattle.node.specs.Node.{server}
use Rattle.node.specs.Stored.{LeavesBy, disk_by, mark_by}
use Rattle.node.specs.Taking.{input_in, ruled}
use Rattle.node.specs.declared.input.Input.{Input}
use Rattle.node.specs.declared.input.Input.TheVariants as input
use Rattle.node_outputs.specs.Makes.{Makes}
use Rattle.node_outputs.specs.Messages.{heard}
use Rattle.group_rules.specs.Disk.{apply, flush, list_tree}
use Rattle.idle_log.specs.Gives.{StandIn}
use Rattle.node.proofs.Bare.{bare_said, bare_suspect}
use Rattle.node.proofs.Stocks.{idle_stock}
use Rattle.node.proofs.Wholes.{asked_sent, asks_stock, idle_apply, idle_flush, idle_list, idle_tick, message_sent, stand_first, stand_fresh, stand_none}
use Rattle.node.specs.Step.{ListsFor}
use Rattle.node.specs.Stock.{stock, stock_after}
use Rattle.node_outputs.specs.Records.{records_sent}
use Rattle.node_outputs.specs.Said.{said}
use Rattle.node_outputs.specs.declared.outputs.Outputs.{Outputs}
use Rattle.replica.specs.Asking.{recorded}
use Rattle.node.proofs.node.Node.rule.Goals as goal

pub returns-in_ok-tick-in-Tick-clause-makes : goal.returns-in_ok-tick-in-Tick-clause-makes
returns-in_ok-tick-in-Tick-clause-makes g c items size list fills =
    let n = c.args.self.now in
    let s = server n items in
    let new = server c.tick.new.self items in
    subst (λ (x : Input). Makes n.me c.args.now (ruled size n.me c.args.now list s (input_of x))
    (peers_of n x) s new c.args.outs.now c.tick.new.outs) (sym c.in-Tick.is)
    (any_peers n.me c.args.now (tick n.me c.args.now s) n.peers s new c.args.outs.now
    c.tick.new.outs (mute_tick n.me c.args.now s) (c.in_ok-tick-in-Tick.ensures.makes items))

pub returns-in-Ask-clause-makes : goal.returns-in-Ask-clause-makes
returns-in-Ask-clause-makes g c =
    let n = c.args.self.now in
    let told = g.D.Store.told c.args.store.now in
    on_ok_weaker c.ask.result
    (λ asked items size list fills. subst (λ (x : Input). Makes n.me c.args.now
    (ruled size n.me c.args.now list (server n items) (input_of x)) (peers_of n x)
    (server n items) (server c.ask.new.self items) c.args.outs.now c.ask.new.outs)
    (sym c.in-Ask.is) ((asked items list (subst (λ (x : Input). FillsSized size list n c.args.now
    told x) c.in-Ask.is fills)).makes)) c.ask.ensures.asked

pub returns-in-Apply-clause-makes : goal.returns-in-Apply-clause-makes
returns-in-Apply-clause-makes g c =
    let n = c.args.self.now in
    on_ok_weaker c.apply.result
    (λ made items size list fills. subst (λ (x : Input). Makes n.me c.args.now
    (ruled size n.me c.args.now list (server n items) (input_of x)) (peers_of n x)
    (server n items) (server c.apply.new.self items) c.args.outs.now c.args.outs.now)
    (sym c.in-Apply.is) (made items c.args.now c.args.outs.now)) c.apply.ensures.makes

pub returns-in-Flush-clause-makes : goal.returns-in-Flush-clause-makes
returns-in-Flush-clause-makes g c =
    let n = c.args.self.now in
    on_ok_weaker c.flush.result
    (λ made items size list fills. subst (λ (x : Input). Makes n.me c.args.now
    (ruled size n.me c.args.now list (server n items) (input_of x)) (peers_of n x)
    (server n items) (server c.flush.new.self items) c.args.outs.now c.args.outs.now)
    (sym c.in-Flush.is) (made items c.args.now c.args.outs.now)) c.flush.ensures.makes

-- ---- the records, and who waits

pub returns-in_ok-tick-in-Tick-clause-stock : goal.returns-in_ok-tick-in-Tick-clause-stock
returns-in_ok-tick-in-Tick-clause-stock g c items size list fills =
    let n = c.args.self.now in
    let s = server n items in
    subst (λ (x : Input). stock c.tick.new.self ≡ stock_after n.me c.args.now list
    (came x) (peers_of n x) s (ruled size n.me c.args.now list s (input_of x)) (stock n))
    (sym c.in-Tick.is)
    (c.in_ok-tick-in-Tick.ensures.stock
    ∙ sym (idle_stock n.me c.args.now list [] n.peers s (tick n.me c.args.now s) (stock n)
    (idle_tick n.me c.args.now s)))

pub returns-in-Suspect-clause-stock : goal.returns-in-Suspect-clause-stock
returns-in-Suspect-clause-stock g c =
    let n = c.args.self.now in
    on_ok_weaker c.suspicion.result
    (λ h items size list fills. let s = server n items in
    subst (λ (x : Input). stock c.suspicion.new.self ≡ stock_after n.me c.args.now list
    (came x) (peers_of n x) s (ruled size n.me c.args.now list s (input_of x)) (stock n))
    (sym c.in-Suspect.is)
    (h items c.args.now list n.peers)) c.suspicion.ensures.stock

pub returns-in-Message-clause-stock : goal.returns-in-Message-clause-stock
returns-in-Message-clause-stock g c =
    let n = c.args.self.now in
    on_ok_weaker c.take_message.result
    (λ h items size list fills. let s = server n items in
    subst (λ (x : Input). stock c.take_message.new.self ≡ stock_after n.me c.args.now list
    (came x) (peers_of n x) s (ruled size n.me c.args.now list s (input_of x)) (stock n))
    (sym c.in-Message.is)
    ((h size list).stock items c.args.now list n.peers))
    (ok_each _ _ c.take_message.result c.take_message.ensures.handles)

pub returns-in-Ask-clause-stock : goal.returns-in-Ask-clause-stock
returns-in-Ask-clause-stock g c =
    let n = c.args.self.now in
    let told = g.D.Store.told c.args.store.now in
    both_ok c.ask.result
    (λ asked pulled items size list fills. let s = server n items in
    let a = asked items list (subst (λ (x : Input). FillsSized size list n c.args.now
    told x) c.in-Ask.is fills) in
    subst (λ (x : Input). stock c.ask.new.self ≡ stock_after n.me c.args.now list
    (came x) (peers_of n x) s (ruled size n.me c.args.now list s (input_of x)) (stock n))
    (sym c.in-Ask.is)
    (asks_stock c.args.now list items c.in-Ask.client c.in-Ask.number c.in-Ask.cred c.in-Ask.call
    c.in-Ask.peer n c.ask.new.self a.waits a.records pulled))
    c.ask.ensures.asked c.ask.ensures.pulled

pub returns-in-Apply-clause-stock : goal.returns-in-Apply-clause-stock
returns-in-Apply-clause-stock g c =
    let n = c.args.self.now in
    on_ok_weaker c.apply.result
    (λ same items size list fills. let s = server n items in
    subst (λ (x : Input). stock c.apply.new.self ≡ stock_after n.me c.args.now list
    (came x) (peers_of n x) s (ruled size n.me c.args.now list s (input_of x)) (stock n))
    (sym c.in-Apply.is)
    (same ∙ sym (idle_stock n.me c.args.now list [] [] s (apply n.me s c.in-Apply.most) (stock n)
    (idle_apply n.me s c.in-Apply.most))))
    c.apply.ensures.stock

pub returns-in-Flush-clause-stock : goal.returns-in-Flush-clause-stock
returns-in-Flush-clause-stock g c =
    let n = c.args.self.now in
    on_ok_weaker c.flush.result
    (λ same items size list fills. let s = server n items in
    subst (λ (x : Input). stock c.flush.new.self ≡ stock_after n.me c.args.now list
    (came x) (peers_of n x) s (ruled size n.me c.args.now list s (input_of x)) (stock n))
    (sym c.in-Flush.is)
    (same ∙ sym (idle_stock n.me c.args.now list [] [] s (flush n.me s) (stock n)
    (idle_flush n.me s))))
    c.flush.ensures.stock

pub returns-in-List-clause-stock : goal.returns-in-List-clause-stock
returns-in-List-clause-stock g c =
    let n = c.args.self.now in
    on_ok_weaker c.list.result
    (λ same items size list fills. let s = server n items in
    subst (λ (x : Input). stock c.list.new.self ≡ stock_after n.me c.args.now list
    (came x) (peers_of n x) s (ruled size n.me c.args.now list s (input_of x)) (stock n))
    (sym c.in-List.is)
    (same ∙ sym (idle_stock n.me c.args.now list [] [] s (list_tree n.me s) (stock n)
    (idle_list n.me s))))
    c.list.ensures.stock

-- ---- the records that are sent

pub returns-in_ok-tick-in-Tick-clause-sent : goal.returns-in_ok-tick-in-Tick-clause-sent
returns-in_ok-tick-in-Tick-clause-sent g c items size list fills fresh none =
    let n = c.args.self.now in
    stand_first n.records _ (records_sent c.tick.new.outs)
    (stand_fresh n.records (records_sent c.args.outs.now) (records_sent c.tick.new.outs) none
    c.in_ok-tick-in-Tick.ensures.sent)

pub returns-in-Suspect-clause-sent : goal.returns-in-Suspect-clause-sent
returns-in-Suspect-clause-sent g c =
    let n = c.args.self.now in
    on_ok_weaker c.suspicion.result
    (λ made items size list fills fresh none. let s = server n items in
    stand_none _ (records_sent c.suspicion.new.outs)
    (bare_said n.me c.args.now s (suspect n.me s) [] (said c.args.outs.now) c.suspicion.new.outs
    fresh (made items c.args.now).said (bare_suspect n.me s))) c.suspicion.ensures.makes

pub returns-in-Message-clause-sent : goal.returns-in-Message-clause-sent
returns-in-Message-clause-sent g c =
    let n = c.args.self.now in
    both_ok c.take_message.result
    (λ h sent items size list fills fresh none. message_sent size n.me c.args.now list
    (server n items) (server c.take_message.new.self items) c.in-Message.from c.in-Message.message
    n.peers c.args.outs.now c.take_message.new.outs n.records _
    ((h size list).makes (subst (λ (x : Input). FillsSized size list n c.args.now
    (g.D.Store.told c.args.store.now) x) c.in-Message.is fills) items) sent fresh none)
    (ok_each _ _ c.take_message.result c.take_message.ensures.handles) c.take_message.ensures.sent

pub returns-in-Ask-clause-sent : goal.returns-in-Ask-clause-sent
returns-in-Ask-clause-sent g c =
    let n = c.args.self.now in
    on_ok_weaker c.ask.result
    (λ asked items size list fills fresh none. let s = server n items in
    subst (λ (x : Input). StandIn (n.records ++ recorded n.plain.accepted list
    (ruled size n.me c.args.now list s (input_of x))) (records_sent c.ask.new.outs))
    (sym c.in-Ask.is)
    (asked_sent n.records _ (records_sent c.args.outs.now) (records_sent c.ask.new.outs) none
    (asked items list (subst (λ (x : Input). FillsSized size list n c.args.now
    (g.D.Store.told c.args.store.now) x) c.in-Ask.is fills)).sent)) c.ask.ensures.asked

pub returns-in-Apply-clause-sent : goal.returns-in-Apply-clause-sent
returns-in-Apply-clause-sent g c = on_ok_weaker c.apply.result
    (λ same items size list fills fresh none. stand_none _ (records_sent c.args.outs.now) none)
    c.apply.ensures.stock

pub returns-in-Flush-clause-sent : goal.returns-in-Flush-clause-sent
returns-in-Flush-clause-sent g c = on_ok_weaker c.flush.result
    (λ same items size list fills fresh none. stand_none _ (records_sent c.args.outs.now) none)
    c.flush.ensures.stock

pub returns-in-List-clause-sent : goal.returns-in-List-clause-sent
returns-in-List-clause-sent g c = on_ok_weaker c.list.result
    (λ same items size list fills fresh none. stand_none _ (records_sent c.list.new.outs)
    (c.list.ensures.tells.records ∙ none))
    c.list.ensures.stock

-- ---- the listing

pub returns-in-List-clause-listing : goal.returns-in-List-clause-listing
returns-in-List-clause-listing g c =
    let n = c.args.self.now in
    let told = g.D.Store.told c.args.store.now in
    on_ok_weaker c.list.result
    (λ h. subst (λ (x : Input). ListsFor x n told c.args.outs.now.listing
    c.list.new.outs.listing) (sym c.in-List.is)
    (record {
      settled = h;
      other = λ no. ap (λ (o : Outputs). o.listing) (c.list.ensures.tells.silent no);
    }))
    c.list.ensures.tells.listing

-- ---- a message, but for its mark and disk

pub returns-in-Message-clause-makes : goal.returns-in-Message-clause-makes
returns-in-Message-clause-makes g c =
    let n = c.args.self.now in
    on_ok_weaker c.take_message.result
    (λ h items size list fills. subst (λ (x : Input). Makes n.me c.args.now
    (ruled size n.me c.args.now list (server n items) (input_of x)) (peers_of n x)
    (server n items) (server c.take_message.new.self items) c.args.outs.now
    c.take_message.new.outs)
    (sym c.in-Message.is) ((h size list).makes (subst (λ (x : Input). FillsSized size list n
    c.args.now (g.D.Store.told c.args.store.now) x) c.in-Message.is fills) items))
    (ok_each _ _ c.take_message.result c.take_message.ensures.handles)

-- ---- whether the server goes on, with its mark, its disk and the store's faults

pub returns-in_ok-tick-in-Tick-clause-brings : goal.returns-in_ok-tick-in-Tick-clause-brings
returns-in_ok-tick-in-Tick-clause-brings g c =
    let n = c.args.self.now in
    let told = g.D.Store.told c.args.store.now in
    let ms = tick n.me c.args.now n.plain in
    let same = alike_none ms (tick_unmarked n.me c.args.now n.plain) in
    brings_so _ c.args.now n c.tick.new.self told told c.args.input input.Tick c.in-Tick.is
    (record {
      me = c.tick.ensures.me;
      mark = λ size list. mark_as ms [] n.mark c.tick.new.self.mark same c.tick.ensures.mark;
      written = λ size list. disk_as ms [] (marked_by n.mark ms) (marked_by n.mark ms) told told
          same refl refl;
      part = tt;
    })

pub returns-in_ok-tick-in-Tick-clause-runs : goal.returns-in_ok-tick-in-Tick-clause-runs
returns-in_ok-tick-in-Tick-clause-runs g c =
    let told = g.D.Store.told c.args.store.now in record {
      up = c.in_ok-tick-in-Tick.ensures.up;
      cached = stays_cached c.args.self.now.cached c.tick.new.self.cached told told
          (inl c.in_ok-tick-in-Tick.ensures.cached) refl c.requires.cached;
    }

pub returns-in_ok-tick-in-Tick-clause-faults : goal.returns-in_ok-tick-in-Tick-clause-faults
returns-in_ok-tick-in-Tick-clause-faults g c = once_done _ _ _ (le_refl _)

pub returns-in_err-tick-in-Tick-clause-brings : goal.returns-in_err-tick-in-Tick-clause-brings
returns-in_err-tick-in-Tick-clause-brings g c =
    let n = c.args.self.now in
    let r = c.from_residual.result in record {
      me = c.tick.ensures.me;
      mark = IfOk-from_err r _ c.from_residual.ensures.0;
      written = IfOk-from_err r _ c.from_residual.ensures.0;
      part = err_all r (λ size list. none_left n (ruled size n.me c.args.now list n.plain
          (input_of c.args.input)) (input_of c.args.input) (g.D.Store.told c.args.store.now));
    }

pub returns-in_err-tick-in-Tick-clause-runs : goal.returns-in_err-tick-in-Tick-clause-runs
returns-in_err-tick-in-Tick-clause-runs g c = IfOk-from_err c.from_residual.result _
    c.from_residual.ensures.0

pub returns-in_err-tick-in-Tick-clause-faults : goal.returns-in_err-tick-in-Tick-clause-faults
returns-in_err-tick-in-Tick-clause-faults g c = once_memory _ _ _
    c.from_residual.ensures.1 (le_refl _)

pub returns-in-Suspect-clause-brings : goal.returns-in-Suspect-clause-brings
returns-in-Suspect-clause-brings g c =
    let n = c.args.self.now in
    let r = c.suspicion.result in
    let told = g.D.Store.told c.args.store.now in
    brings_so r c.args.now n c.suspicion.new.self told (g.D.Store.told c.suspicion.new.store)
    c.args.input input.Suspect c.in-Suspect.is (record {
      me = c.suspicion.ensures.stays.me;
      mark = on_ok_weaker r (λ mark size list. mark) c.suspicion.ensures.mark;
      written = both_ok r (λ mark written size list. written ∙ ap (λ (k : MarkFields). disk_after
          (suspect n.me n.plain) k told) mark) c.suspicion.ensures.mark
          c.suspicion.ensures.written;
      part = on_err_weaker r (λ part size list. part) c.suspicion.ensures.part;
    })

pub returns-in-Suspect-clause-runs : goal.returns-in-Suspect-clause-runs
returns-in-Suspect-clause-runs g c =
    let n = c.args.self.now in
    both_ok c.suspicion.result (λ up cached. record { up = up; cached = cached })
    c.suspicion.ensures.stays.up (both_ok c.suspicion.result
    (λ kept written. marks_cached (suspect n.me n.plain) c.suspicion.new.self.mark n.cached
    c.suspicion.new.self.cached (g.D.Store.told c.args.store.now)
    (g.D.Store.told c.suspicion.new.store) c.requires.cached kept written)
    c.suspicion.ensures.stays.cached c.suspicion.ensures.written)

pub returns-in-Suspect-clause-faults : goal.returns-in-Suspect-clause-faults
returns-in-Suspect-clause-faults g c = c.suspicion.ensures.faults

pub returns-in-Message-clause-brings : goal.returns-in-Message-clause-brings
returns-in-Message-clause-brings g c =
    let n = c.args.self.now in
    let told = g.D.Store.told c.args.store.now in
    let left = g.D.Store.told c.take_message.new.store in
    let from = place_of c.in-Message.from in
    let message = heard c.in-Message.message in
    let all = c.take_message.ensures.handles in record {
      me = me_of c.take_message.result _ _ _ _ _ _ _ _ _ _ _ _ _
          (c.take_message.ensures.handles (λ before e. 0) []);
      mark = on_ok_weaker c.take_message.result
          (λ marks size list. subst (λ (x : Input). c.take_message.new.self.mark ≡ mark_by n
          (ruled size n.me c.args.now list n.plain (input_of x)) (input_of x)) (sym c.in-Message.is)
          (came_mark size c.args.now list n from message c.take_message.new.self.mark
          (marks size list).mark)) (ok_each _ _ c.take_message.result all);
      written = on_ok_weaker c.take_message.result
          (λ h size list. subst (λ (x : Input). left ≡ disk_by n
          (ruled size n.me c.args.now list n.plain (input_of x)) (input_of x) told)
          (sym c.in-Message.is)
          (came_disk size c.args.now list n from message c.take_message.new.self.mark told left
          (h size list).mark (h size list).written)) (ok_each _ _ c.take_message.result all);
      part = on_err_weaker c.take_message.result
          (λ leaves size list. subst (λ (x : Input). LeavesBy n
          (ruled size n.me c.args.now list n.plain (input_of x)) (input_of x) told left)
          (sym c.in-Message.is)
          (came_part size c.args.now list n from message told left (leaves size list)))
          (err_each _ c.take_message.result all (λ size list why h. h.part));
    }

pub returns-in-Message-clause-runs : goal.returns-in-Message-clause-runs
returns-in-Message-clause-runs g c =
    let n = c.args.self.now in
    ok_of _ c.take_message.result (c.take_message.ensures.handles (λ before e. 0) [])
    (λ h. record {
      up = h.up;
      cached = marks_cached (ruled (λ before e. 0) n.me c.args.now [] n.plain
          (input_in c.in-Message.from c.in-Message.message)) c.take_message.new.self.mark n.cached
          c.take_message.new.self.cached (g.D.Store.told c.args.store.now)
          (g.D.Store.told c.take_message.new.store) c.requires.cached h.cached h.written;
    })

pub returns-in-Message-clause-faults : goal.returns-in-Message-clause-faults
returns-in-Message-clause-faults g c = record {
  running = runs_on _ c.take_message.result
      (c.take_message.ensures.handles (λ before e. 0) []) (λ why h. h.running);
  counts = record {
    rose = rose_of _ c.take_message.result
        (c.take_message.ensures.handles (λ before e. 0) []) (λ why h. h.rose);
    count = c.take_message.ensures.count;
  };
}

pub returns-in-Ask-clause-brings : goal.returns-in-Ask-clause-brings
returns-in-Ask-clause-brings g c =
    let n = c.args.self.now in
    let r = c.ask.result in
    brings_so r c.args.now n c.ask.new.self (g.D.Store.told c.args.store.now)
    (g.D.Store.told c.ask.new.store) c.args.input (input.Ask c.in-Ask.peer c.in-Ask.client
    c.in-Ask.number c.in-Ask.cred c.in-Ask.call) c.in-Ask.is (record {
      me = c.ask.ensures.keeps.me;
      mark = ok_all r (λ size list. c.ask.ensures.keeps.mark);
      written = ok_all r (λ size list. c.ask.ensures.keeps.kept);
      part = err_all r (λ size list. c.ask.ensures.keeps.kept);
    })

pub returns-in-Ask-clause-runs : goal.returns-in-Ask-clause-runs
returns-in-Ask-clause-runs g c = c.ask.ensures.runs

pub returns-in-Ask-clause-faults : goal.returns-in-Ask-clause-faults
returns-in-Ask-clause-faults g c = c.ask.ensures.faults

pub returns-in-List-clause-brings : goal.returns-in-List-clause-brings
returns-in-List-clause-brings g c =
    let n = c.args.self.now in
    let r = c.list.result in
    brings_so r c.args.now n c.list.new.self (g.D.Store.told c.args.store.now)
    (g.D.Store.told c.list.new.store) c.args.input input.List c.in-List.is (record {
      me = c.list.ensures.keeps.me;
      mark = ok_all r (λ size list. c.list.ensures.keeps.mark);
      written = ok_all r (λ size list. c.list.ensures.keeps.kept);
      part = err_all r (λ size list. c.list.ensures.keeps.kept);
    })

pub returns-in-List-clause-runs : goal.returns-in-List-clause-runs
returns-in-List-clause-runs g c = c.list.ensures.runs

pub returns-in-List-clause-faults : goal.returns-in-List-clause-faults
returns-in-List-clause-faults g c = c.list.ensures.faults

pub returns-in-Apply-clause-brings : goal.returns-in-Apply-clause-brings
returns-in-Apply-clause-brings g c =
    let n = c.args.self.now in
    let r = c.apply.result in
    brings_so r c.args.now n c.apply.new.self (g.D.Store.told c.args.store.now)
    (g.D.Store.told c.apply.new.store) c.args.input (input.Apply c.in-Apply.most) c.in-Apply.is
    (record {
      me = c.apply.ensures.applies.me;
      mark = ok_all r (λ size list. c.apply.ensures.applies.mark);
      written = on_ok_weaker r (λ done size list. done) c.apply.ensures.applies.done;
      part = err_all r (λ size list. c.apply.ensures.applies.part);
    })

pub returns-in-Apply-clause-runs : goal.returns-in-Apply-clause-runs
returns-in-Apply-clause-runs g c = c.apply.ensures.runs

pub returns-in-Apply-clause-faults : goal.returns-in-Apply-clause-faults
returns-in-Apply-clause-faults g c = c.apply.ensures.faults

pub returns-in-Flush-clause-brings : goal.returns-in-Flush-clause-brings
returns-in-Flush-clause-brings g c =
    let n = c.args.self.now in
    let r = c.flush.result in
    brings_so r c.args.now n c.flush.new.self (g.D.Store.told c.args.store.now)
    (g.D.Store.told c.flush.new.store) c.args.input input.Flush c.in-Flush.is (record {
      me = c.flush.ensures.writes.me;
      mark = on_ok_weaker r (λ mark size list. mark) c.flush.ensures.writes.mark;
      written = on_ok_weaker r (λ done size list. done) c.flush.ensures.writes.done;
      part = err_all r (λ size list. c.flush.ensures.writes.part);
    })

pub returns-in-Flush-clause-runs : goal.returns-in-Flush-clause-runs
returns-in-Flush-clause-runs g c = c.flush.ensures.runs

pub returns-in-Flush-clause-faults : goal.returns-in-Flush-clause-faults
returns-in-Flush-clause-faults g c = c.flush.ensures.faults
