use Rattle.std.proofs.Common.{◌++◌, ◌∙◌, ap, arith}
use Rattle.std.specs.Option.{option_map}
use Rattle.inode_blocks.specs.Changes.{cuts, kept_in}
use Rattle.inode_blocks.proofs.CutLaws.{cut_joined, cuts_lead}
use Rattle.inode_blocks.proofs.Steps.{lead_by}
use Rattle.inode_blocks.proofs.cutting.cut_to.Goals as goal

pub returns-clause-leads : goal.returns-clause-leads
returns-clause-leads g c held old told holds is =
    lead_by c.args.changes.now.items c.append_erasure.new.changes.items
    (cuts c.args.object c.args.size c.args.wanted
    (kept_in held c.args.object c.args.wanted)) held c.args.object
    c.args.size _
    (cut_joined c.args.changes.now.items c.append_kept.new.changes.items
    c.append_erasure.new.changes.items
    c.args.object c.args.size c.args.wanted
    (option_map (λ v. v.items) c.in_ok-kept.kept) c.in_ok-append_kept.ensures.ok
    c.in_ok-append_erasure.ensures.ok
    (omega arith)
    ∙ ap (λ kept. c.args.changes.now.items ++ cuts c.args.object c.args.size c.args.wanted kept)
    (c.in_ok-kept.ensures.value held told))
    (cuts_lead held c.args.object c.args.size old c.args.wanted holds is)

pub returns-clause-kinds : goal.returns-clause-kinds
returns-clause-kinds g c = (
  option_map (λ v. v.items) c.in_ok-kept.kept,
  cut_joined c.args.changes.now.items c.append_kept.new.changes.items
      c.append_erasure.new.changes.items
      c.args.object c.args.size c.args.wanted
      (option_map (λ v. v.items) c.in_ok-kept.kept) c.in_ok-append_kept.ensures.ok
      c.in_ok-append_erasure.ensures.ok
      (omega arith),
)
