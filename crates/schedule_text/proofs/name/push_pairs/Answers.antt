use Rattle.std.proofs.Common.{◌+◌, ◌-◌, [], ◌∷◌, length, refl, sym, ap, ◌∙◌, arith}
use Rattle.std.proofs.lemmas.List.{length-append}
use Rattle.schedule_text.specs.Fields.{pairs_from}
use Rattle.schedule_text.proofs.Pairs.{reads_on, reads_end}
use Rattle.schedule_text.proofs.name.push_pairs.Goals as goal

pub returns-in_default-clause-value : goal.returns-in_default-clause-value
returns-in_default-clause-value c =
    let bytes = c.args.bytes.now in
    let none = sym c.pair_at.ensures.step ∙ c.in_default.is in
    reads_end (c.args.most - c.loop-k._k) (c.args.most - (c.loop-k._k + 1)) bytes c.loop-k.place
    c.loop-k.items.items (pairs_from c.args.most bytes c.args.at) (omega arith) none
    c.loop-k.invariant.reads

pub loop-k-preserved : goal.loop-k-preserved
loop-k-preserved c =
    let bytes = c.args.bytes.now in
    let pushed = c.in_ok-push.ensures.items in
    record {
      reads = reads_on (c.args.most - c.loop-k._k) (c.args.most - (c.loop-k._k + 1)) bytes
          c.loop-k.place c.in-Some.b c.loop-k.items.items _
          (pairs_from c.args.most bytes c.args.at) (omega arith) (sym c.in-Some.ensures.step) pushed
          c.loop-k.invariant.reads;
      inside = c.in-Some.ensures.within refl;
      count = omega (
        arith,
        ap length pushed,
        length-append c.loop-k.items.items (c.in-Some.b ∷ []),
        c.loop-k.invariant.count,
      );
    }
