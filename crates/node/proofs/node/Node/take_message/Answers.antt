use Rattle.std.proofs.Common.{[], ◌∷◌, ap, inl, map, refl}
use Rattle.event_record.specs.Record.{entry_of}
use Rattle.file_tree.specs.Book.{Entry}
use Rattle.group_rules.specs.Names.{number_of_view, place_of}
use Rattle.group_rules.specs.State.{Ack, Beat, Demote, Event, Fetch, Formed, Give, Invite, Message}
use Rattle.group_rules.specs.Step.{Comes, rule}
use Rattle.node.proofs.Coming.{acts_client, acts_heard, handles_heard}
use Rattle.node.proofs.Handled.{fails_memory}
use Rattle.node.proofs.Heard.{fills_fetch, forms, heard_ack, heard_makes, joins}
use Rattle.node.proofs.Stocks.{idle_fetch, idle_formed, idle_rule, stocks_idle}
use Rattle.node.specs.Node.{server}
use Rattle.node.specs.Stock.{stock}
use Rattle.node.specs.Taking.{Fills}
use Rattle.node_outputs.specs.Messages.{heard}
use Rattle.node_outputs.specs.Records.{carried}
use Rattle.node.proofs.node.Node.take_message.Goals as goal

pub returns-in-Invite-clause-handles : goal.returns-in-Invite-clause-handles
returns-in-Invite-clause-handles g c size list =
    let n = c.args.self.now in
    let m : Message Entry = Invite (number_of_view c.in-Invite.view) in
    handles_heard size c.args.now list c.args.from c.args.message m n [] n.peers
    (ap heard c.in-Invite.is) (ap carried c.in-Invite.is) c.take_invite.result (Fills size list n
    c.args.message)
    c.take_invite.new.self c.args.outs.now c.take_invite.new.outs (g.D.Store.told c.args.store.now)
    (g.D.Store.told c.take_invite.new.store) (g.D.Store.faults c.args.store.now)
    (g.D.Store.faults c.take_invite.new.store) tt (c.take_invite.ensures.handles size list)

pub returns-in-Invite-clause-count : goal.returns-in-Invite-clause-count
returns-in-Invite-clause-count g c = c.take_invite.ensures.count

pub returns-in-Join-clause-handles : goal.returns-in-Join-clause-handles
returns-in-Join-clause-handles g c size list =
    let n = c.args.self.now in
    let m : Message Entry = joins c.in-Join.view c.in-Join.held c.in-Join.accepted c.in-Join.base
    c.in-Join.lb c.in-Join.cp c.in-Join.top c.in-Join.horizon in
    handles_heard size c.args.now list c.args.from c.args.message m n [] n.peers
    (ap heard c.in-Join.is) (ap carried c.in-Join.is) c.take_join.result (Fills size list n
    c.args.message)
    c.take_join.new.self c.args.outs.now c.take_join.new.outs (g.D.Store.told c.args.store.now)
    (g.D.Store.told c.take_join.new.store) (g.D.Store.faults c.args.store.now)
    (g.D.Store.faults c.take_join.new.store) tt (c.take_join.ensures.handles size list)

pub returns-in-Join-clause-count : goal.returns-in-Join-clause-count
returns-in-Join-clause-count g c = c.take_join.ensures.count

pub returns-in-Form-clause-handles : goal.returns-in-Form-clause-handles
returns-in-Form-clause-handles g c size list =
    let n = c.args.self.now in
    let m : Message Entry = forms c.in-Form.view c.in-Form.storers c.in-Form.source c.in-Form.base
    c.in-Form.cp c.in-Form.start c.in-Form.horizon in
    handles_heard size c.args.now list c.args.from c.args.message m n [] n.peers
    (ap heard c.in-Form.is) (ap carried c.in-Form.is) c.take_form.result (Fills size list n
    c.args.message)
    c.take_form.new.self c.args.outs.now c.take_form.new.outs (g.D.Store.told c.args.store.now)
    (g.D.Store.told c.take_form.new.store) (g.D.Store.faults c.args.store.now)
    (g.D.Store.faults c.take_form.new.store) tt (c.take_form.ensures.handles size list)

pub returns-in-Form-clause-count : goal.returns-in-Form-clause-count
returns-in-Form-clause-count g c = c.take_form.ensures.count

pub returns-in-Give-clause-handles : goal.returns-in-Give-clause-handles
returns-in-Give-clause-handles g c size list =
    let n = c.args.self.now in
    let m : Message Entry = Give (number_of_view c.in-Give.view) c.in-Give.first
    (map entry_of c.in-Give.records) in
    handles_heard size c.args.now list c.args.from c.args.message m n c.in-Give.records n.peers
    (ap heard c.in-Give.is) (ap carried c.in-Give.is) c.take_give.result (Fills size list n
    c.args.message)
    c.take_give.new.self c.args.outs.now c.take_give.new.outs (g.D.Store.told c.args.store.now)
    (g.D.Store.told c.take_give.new.store) (g.D.Store.faults c.args.store.now)
    (g.D.Store.faults c.take_give.new.store) tt (c.take_give.ensures.handles size list)

pub returns-in-Give-clause-count : goal.returns-in-Give-clause-count
returns-in-Give-clause-count g c = c.take_give.ensures.count

pub returns-in-Demote-clause-handles : goal.returns-in-Demote-clause-handles
returns-in-Demote-clause-handles g c size list =
    let n = c.args.self.now in
    let m : Message Entry = Demote (number_of_view c.in-Demote.view) in
    handles_heard size c.args.now list c.args.from c.args.message m n [] n.peers
    (ap heard c.in-Demote.is) (ap carried c.in-Demote.is) c.take_demote.result (Fills size list n
    c.args.message)
    c.take_demote.new.self c.args.outs.now c.take_demote.new.outs (g.D.Store.told c.args.store.now)
    (g.D.Store.told c.take_demote.new.store) (g.D.Store.faults c.args.store.now)
    (g.D.Store.faults c.take_demote.new.store) tt (c.take_demote.ensures.handles size list)

pub returns-in-Demote-clause-count : goal.returns-in-Demote-clause-count
returns-in-Demote-clause-count g c = c.take_demote.ensures.count

pub returns-in-Fetch-clause-handles : goal.returns-in-Fetch-clause-handles
returns-in-Fetch-clause-handles g c size list =
    let n = c.args.self.now in
    let from = place_of c.args.from in
    let m : Message Entry = Fetch (number_of_view c.in-Fetch.view) c.in-Fetch.first in
    acts_heard size c.args.now list c.args.from c.args.message m n [] n.peers
    (ap heard c.in-Fetch.is) (ap carried c.in-Fetch.is) (Fills size list n c.args.message)
    c.take_fetch.new.self c.args.outs.now c.take_fetch.new.outs (g.D.Store.told c.args.store.now)
    tt
    c.take_fetch.ensures.me c.in_ok-take_fetch-in-Fetch.ensures.up
    (λ fills items. let sized = fills_fetch size list n c.args.message
    (number_of_view c.in-Fetch.view) c.in-Fetch.first (ap heard c.in-Fetch.is) fills in
    heard_makes size n.me c.args.now list (server n items)
    (server c.take_fetch.new.self items) c.args.from c.args.message m n.peers c.args.outs.now
    c.take_fetch.new.outs (ap heard c.in-Fetch.is) tt
    (c.in_ok-take_fetch-in-Fetch.ensures.makes items size list sized.0 sized.1))
    (λ items. stocks_idle [] n.me (server n items)
    (rule size n.me c.args.now list (server n items) (Comes from m)) (stock n)
    (stock c.take_fetch.new.self) (idle_rule size n.me c.args.now list (server n items) from m
    (idle_fetch size list (server n items) from (number_of_view c.in-Fetch.view)
    c.in-Fetch.first)) c.in_ok-take_fetch-in-Fetch.ensures.stock)
    (inl c.in_ok-take_fetch-in-Fetch.ensures.cached) c.take_fetch.ensures.mark

pub returns-in_err-take_fetch-in-Fetch-clause-handles :
    goal.returns-in_err-take_fetch-in-Fetch-clause-handles
returns-in_err-take_fetch-in-Fetch-clause-handles g c size list = fails_memory _ _ _ _ _ _ _ _ _ _
    _ _ _ _
    c.from_residual.ensures.1 c.take_fetch.ensures.me (inl refl)

pub returns-in-Formed-clause-handles : goal.returns-in-Formed-clause-handles
returns-in-Formed-clause-handles g c size list =
    let n = c.args.self.now in
    let from = place_of c.args.from in
    let m : Message Entry = Formed (number_of_view c.in-Formed.view) c.in-Formed.lb in
    acts_heard size c.args.now list c.args.from c.args.message m n [] n.peers
    (ap heard c.in-Formed.is) (ap carried c.in-Formed.is) (Fills size list n c.args.message)
    c.take_formed.new.self c.args.outs.now c.take_formed.new.outs (g.D.Store.told
    c.args.store.now) tt
    c.take_formed.ensures.me c.in_ok-take_formed-in-Formed.ensures.up
    (λ fills items. heard_makes size n.me c.args.now list (server n items)
    (server c.take_formed.new.self items) c.args.from c.args.message m n.peers c.args.outs.now
    c.take_formed.new.outs (ap heard c.in-Formed.is) tt
    (c.in_ok-take_formed-in-Formed.ensures.makes items size list))
    (λ items. stocks_idle [] n.me (server n items)
    (rule size n.me c.args.now list (server n items) (Comes from m)) (stock n)
    (stock c.take_formed.new.self) (idle_rule size n.me c.args.now list (server n items) from m
    (idle_formed (server n items) from (number_of_view c.in-Formed.view) c.in-Formed.lb))
    c.in_ok-take_formed-in-Formed.ensures.stock)
    c.in_ok-take_formed-in-Formed.ensures.cached c.take_formed.ensures.mark

pub returns-in_err-take_formed-in-Formed-clause-handles :
    goal.returns-in_err-take_formed-in-Formed-clause-handles
returns-in_err-take_formed-in-Formed-clause-handles g c size list = fails_memory _ _ _ _ _ _ _ _ _
    _ _ _ _ _
    c.from_residual-in_err-take_formed-in-Formed.ensures.1 c.take_formed.ensures.me (inl refl)

pub returns-in-Event-clause-handles : goal.returns-in-Event-clause-handles
returns-in-Event-clause-handles g c size list =
    let n = c.args.self.now in
    let m : Message Entry = Event (number_of_view c.in-Event.view) c.in-Event.item.index
    c.in-Event.cp c.in-Event.base (entry_of c.in-Event.item) in
    acts_heard size c.args.now list c.args.from c.args.message m n (c.in-Event.item ∷ []) n.peers
    (ap heard c.in-Event.is) (ap carried c.in-Event.is) (Fills size list n c.args.message)
    c.take_event.new.self c.args.outs.now c.take_event.new.outs (g.D.Store.told c.args.store.now)
    tt
    c.take_event.ensures.me c.in_ok-take_event-in-Event.ensures.up
    (λ fills items. heard_makes size n.me c.args.now list (server n items)
    (server c.take_event.new.self items) c.args.from c.args.message m n.peers c.args.outs.now
    c.take_event.new.outs (ap heard c.in-Event.is) tt
    (c.in_ok-take_event-in-Event.ensures.makes items size list))
    (λ items. c.in_ok-take_event-in-Event.ensures.stock items size list)
    (inl c.in_ok-take_event-in-Event.ensures.cached) c.take_event.ensures.mark

pub returns-in_err-take_event-in-Event-clause-handles :
    goal.returns-in_err-take_event-in-Event-clause-handles
returns-in_err-take_event-in-Event-clause-handles g c size list = fails_memory _ _ _ _ _ _ _ _ _ _
    _ _ _ _
    c.from_residual-in_err-take_event-in-Event.ensures.1 c.take_event.ensures.me (inl refl)

pub returns-in-Beat-clause-handles : goal.returns-in-Beat-clause-handles
returns-in-Beat-clause-handles g c size list =
    let n = c.args.self.now in
    let m : Message Entry = Beat (number_of_view c.in-Beat.view) c.in-Beat.cp c.in-Beat.base in
    acts_heard size c.args.now list c.args.from c.args.message m n [] n.peers
    (ap heard c.in-Beat.is) (ap carried c.in-Beat.is) (Fills size list n c.args.message)
    c.take_beat.new.self c.args.outs.now c.take_beat.new.outs (g.D.Store.told c.args.store.now) tt
    c.take_beat.ensures.me c.in_ok-take_beat-in-Beat.ensures.up
    (λ fills items. heard_makes size n.me c.args.now list (server n items)
    (server c.take_beat.new.self items) c.args.from c.args.message m n.peers c.args.outs.now
    c.take_beat.new.outs (ap heard c.in-Beat.is) tt
    (c.in_ok-take_beat-in-Beat.ensures.makes items size list))
    (λ items. c.in_ok-take_beat-in-Beat.ensures.stock items size list)
    (inl c.in_ok-take_beat-in-Beat.ensures.cached) c.take_beat.ensures.mark

pub returns-in_err-take_beat-in-Beat-clause-handles :
    goal.returns-in_err-take_beat-in-Beat-clause-handles
returns-in_err-take_beat-in-Beat-clause-handles g c size list = fails_memory _ _ _ _ _ _ _ _ _ _ _
    _ _ _
    c.from_residual-in_err-take_beat-in-Beat.ensures.1 c.take_beat.ensures.me (inl refl)

pub returns-in-Ack-clause-handles : goal.returns-in-Ack-clause-handles
returns-in-Ack-clause-handles g c size list =
    let n = c.args.self.now in
    let m : Message Entry = Ack (number_of_view c.in-Ack.view) c.in-Ack.top c.in-Ack.lb
    c.in-Ack.until in
    acts_heard size c.args.now list c.args.from c.args.message m n [] n.peers
    (ap heard c.in-Ack.is) (ap carried c.in-Ack.is) (Fills size list n c.args.message)
    c.take_ack.new.self c.args.outs.now c.take_ack.new.outs (g.D.Store.told c.args.store.now) tt
    c.take_ack.ensures.me c.in_ok-take_ack-in-Ack.ensures.up
    (λ fills items. heard_ack size n.me c.args.now list (server n items)
    (server c.take_ack.new.self items) c.args.from c.args.message m n.peers c.args.outs.now
    c.take_ack.new.outs (ap heard c.in-Ack.is)
    (c.in_ok-take_ack-in-Ack.ensures.makes items size list))
    (λ items. c.in_ok-take_ack-in-Ack.ensures.stock items size list)
    (inl c.in_ok-take_ack-in-Ack.ensures.cached) c.take_ack.ensures.mark

pub returns-in_err-take_ack-in-Ack-clause-handles :
    goal.returns-in_err-take_ack-in-Ack-clause-handles
returns-in_err-take_ack-in-Ack-clause-handles g c size list = fails_memory _ _ _ _ _ _ _ _ _ _ _ _
    _ _
    c.from_residual-in_err-take_ack-in-Ack.ensures.1 c.take_ack.ensures.me (inl refl)

pub returns-in-Fetch-clause-sent : goal.returns-in-Fetch-clause-sent
returns-in-Fetch-clause-sent g c fetch = c.in_ok-take_fetch-in-Fetch.ensures.sent

pub returns-in-Ask-clause-handles : goal.returns-in-Ask-clause-handles
returns-in-Ask-clause-handles g c size list =
    let n = c.args.self.now in
    acts_client size c.args.now list c.args.from c.args.message n n.peers
    (Fills size list n c.args.message) c.args.outs.now (g.D.Store.told c.args.store.now)
    (ap heard c.in-Ask.is) c.requires.up

pub returns-in-Answer-clause-handles : goal.returns-in-Answer-clause-handles
returns-in-Answer-clause-handles g c size list =
    let n = c.args.self.now in
    acts_client size c.args.now list c.args.from c.args.message n n.peers
    (Fills size list n c.args.message) c.args.outs.now (g.D.Store.told c.args.store.now)
    (ap heard c.in-Answer.is) c.requires.up
