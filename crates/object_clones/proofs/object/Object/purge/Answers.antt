use Rattle.std.proofs.Common.{◌++◌, List, Option, map, sym, ◌∙◌, ap}
use Rattle.std.specs.Option.{option_map, option_to_list}
use Rattle.object_clones.specs.declared.object.Saved.{Saved}
use Rattle.object_clones.specs.Objects.{Kept, Plain, kept, purged_clones}
use Rattle.object_clones.proofs.Clones.{purged_clones-append}
use Rattle.object_clones.proofs.object.Object.purge.Goals as goal

pub returns : goal.returns
returns c =
    let o = c.args.self.now in
    let s = c.args.s in
    let with : List Kept → Plain = λ clones. record { seq = o.seq.0; head = o.head; clones = clones } in
    ap with
    (ap (λ (ks : List Kept). ks ++ option_to_list (option_map kept c.purged_clone.result)) c.purge_all.ensures
    ∙ ap (λ (ks : List Kept). purged_clones s (map kept o.older.items) ++ ks)
    (c.purged_clone.ensures ∙ ap (λ (n : Option Saved). purged_clones s (option_to_list (option_map kept n))) c.take.ensures.value)
    ∙ sym (purged_clones-append s (map kept o.older.items) (option_to_list (option_map kept o.newest))))
