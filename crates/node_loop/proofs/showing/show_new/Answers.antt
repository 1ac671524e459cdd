use Rattle.std.proofs.Common.{◌∷◌, [], ◌∙◌, refl, subst, sym}
use Rattle.node_loop.specs.Watch.{ShowsBehind}
use Rattle.node_loop.proofs.Watchings.{showed-none}
use Rattle.node_loop.proofs.showing.show_new.Goals as goal

pub returns-then-are_alike-clause-shows : goal.returns-then-are_alike-clause-shows
returns-then-are_alike-clause-shows g c =
    let told = g.W.Watcher.told c.args.watcher.now in
    subst (λ s. ShowsBehind c.args.place c.args.millis c.args.before.now s told told)
    c.state_shown-state.ensures (
      [],
      record {
        alike = λ _. refl;
        other = λ none. absurd (none (c.are_alike.ensures.0 c.if-are_alike.true));
      },
      showed-none told,
    )

pub returns-clause-shows : goal.returns-clause-shows
returns-clause-shows g c =
    let state = c.state_shown-state.result in
    subst (λ s. ShowsBehind c.args.place c.args.millis c.args.before.now s
    (g.W.Watcher.told c.args.watcher.now) (g.W.Watcher.told c.see.new.self))
    c.state_shown-state.ensures (
      record { place = c.args.place; millis = c.args.millis; state = state } ∷ [],
      record {
        alike = λ is. let no_ = sym c.if-are_alike.false ∙ c.are_alike.ensures.1 is in cc;
        other = λ _. refl;
      },
      c.see.ensures,
    )
