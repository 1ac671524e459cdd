use Rattle.std.proofs.Common.{ap, inr, subst, sym}
use Rattle.std.specs.Prelude.{Ok}
use Rattle.harp_cli.specs.Check.{CheckEnds, IsFound}
use Rattle.harp_cli.proofs.Checks.{told}
use Rattle.harp_cli.proofs.check.check.Goals as goal

pub returns-in-Ok-write_verdict-clause-ends : goal.returns-in-Ok-write_verdict-clause-ends
returns-in-Ok-write_verdict-clause-ends g c = λ text is.
    let source = g.S.Source.left c.judge_text.new.source in
    let before = g.K.Sink.written c.args.sink.now in
    let after = g.K.Sink.written c.write_verdict.new.sink in
    let found : IsFound text source c.in-Ok.verdict = record {
      on = c.in-Ok.ensures.verdict text is;
      only = c.in-Ok.ensures.only text is;
      right = (c.in-Ok.ensures.yes text is).1;
      read = λ yes. c.in-Ok.ensures.read text is (ap Ok yes);
    } in
    subst (CheckEnds text source before after) (sym c.exit_after.ensures)
    (told text source before after c.in-Ok.verdict found c.in-Ok-write_verdict.ensures.all)

pub returns-in-Err-Failed-write_verdict-clause-ends :
    goal.returns-in-Err-Failed-write_verdict-clause-ends
returns-in-Err-Failed-write_verdict-clause-ends g c = λ text is. record {
  tells = c.in-Ok.verdict;
  found = record {
    on = c.in-Ok.ensures.verdict text is;
    only = c.in-Ok.ensures.only text is;
    right = (c.in-Ok.ensures.yes text is).1;
    read = λ yes. c.in-Ok.ensures.read text is (ap Ok yes);
  };
  wrote = c.in-Err-Failed-write_verdict.ensures.part;
}

pub returns-in-Err-NoMemory-write_verdict-clause-ends :
    goal.returns-in-Err-NoMemory-write_verdict-clause-ends
returns-in-Err-NoMemory-write_verdict-clause-ends g c = λ text is. inr (record {
  tells = c.in-Ok.verdict;
  found = record {
    on = c.in-Ok.ensures.verdict text is;
    only = c.in-Ok.ensures.only text is;
    right = (c.in-Ok.ensures.yes text is).1;
    read = λ yes. c.in-Ok.ensures.read text is (ap Ok yes);
  };
  wrote = c.in-Err-NoMemory-write_verdict.ensures.part;
})
