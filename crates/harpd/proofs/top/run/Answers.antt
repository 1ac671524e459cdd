use Rattle.std.proofs.Common.{subst, inl, refl}
use Rattle.node_loop.specs.Stay.{outer_of}
use Rattle.harpd.specs.Run.{InitEnds}
use Rattle.harpd.specs.Serve.{ServerEnds, outer}
use Rattle.harpd.specs.Words.{AsksFor}
use Rattle.harpd.specs.declared.words.Command.TheVariants as command
use Rattle.harpd.proofs.top.run.Goals as goal

pub returns-in-Some-Server-clause-ends : goal.returns-in-Some-Server-clause-ends
returns-in-Some-Server-clause-ends g c = inl (record {
  command = command.Server c.in-Some-Server.place c.in-Some-Server.runs;
  asked = subst (AsksFor c.args.words.now) c.in-Some-Server.field-0-is c.in-Some-Server.ensures;
  ends = subst (λ w. ServerEnds c.in-Some-Server.place c.in-Some-Server.runs w
      (outer (outer_of g.L.Link.told g.L.Link.unsent g.D.Store.told g.C.Clock.told g.O.Orders.told
      g.W.Watcher.told c.args.outside.now) (g.F.Folders.done c.args.folders.now)
      (g.K.Sink.written c.args.sink.now))
      (outer (outer_of g.L.Link.told g.L.Link.unsent g.D.Store.told g.C.Clock.told g.O.Orders.told
      g.W.Watcher.told c.serve.new.outside) (g.F.Folders.done c.serve.new.folders)
      (g.K.Sink.written c.serve.new.sink))
      c.serve.result) c.word_at-folder.ensures c.serve.ensures.ends;
})

pub returns-in-Some-Door-clause-ends : goal.returns-in-Some-Door-clause-ends
returns-in-Some-Door-clause-ends g c = inl (record {
  command = command.Door c.in-Some-Door.serves;
  asked = subst (AsksFor c.args.words.now) c.in-Some-Door.field-0-is c.in-Some-Door.ensures;
  ends = (c.serve_door.ensures.ends, refl, refl);
})

pub returns-in-Some-Init-clause-ends : goal.returns-in-Some-Init-clause-ends
returns-in-Some-Init-clause-ends g c = inl (record {
  command = command.Init;
  asked = subst (AsksFor c.args.words.now) c.in-Some-Init.field-0-is c.in-Some-Init.ensures;
  ends = (
    subst (λ w. InitEnds w (g.F.Folders.done c.args.folders.now)
        (g.F.Folders.done c.init.new.folders) c.init.result) c.word_at.ensures
        c.init.ensures.ends,
    refl,
  );
})

pub returns-in-Some-Init-clause-sink_rose : goal.returns-in-Some-Init-clause-sink_rose
returns-in-Some-Init-clause-sink_rose g c = λ is. absurd (subst
    (InitEnds c.word_at.result.now (g.F.Folders.done c.args.folders.now)
    (g.F.Folders.done c.init.new.folders)) is c.init.ensures.ends)

pub returns-in-Some-Init-clause-link_rose : goal.returns-in-Some-Init-clause-link_rose
returns-in-Some-Init-clause-link_rose g c = λ is. absurd (subst
    (InitEnds c.word_at.result.now (g.F.Folders.done c.args.folders.now)
    (g.F.Folders.done c.init.new.folders)) is c.init.ensures.ends)
