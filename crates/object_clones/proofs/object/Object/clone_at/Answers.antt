use Rattle.std.proofs.Common.{◌≡◌, ◌∷◌, [], ◌++◌, List, Bool, true, false, cond, nat_le, Some, None, take, sym, ◌∙◌, ap, arith}
use Rattle.std.specs.List.{find}
use Rattle.std.specs.Option.{option_to_list}
use Rattle.std.proofs.lemmas.List.{take_more}
use Rattle.object_clones.specs.declared.object.Saved.{Saved}
use Rattle.object_clones.proofs.Clones.{find_here, find_none, found_last}
use Rattle.object_clones.proofs.object.Object.clone_at.Goals as goal

pub returns-then-s-saved : goal.returns-then-s-saved
returns-then-s-saved c =
    let p : Saved → Bool = λ saved. nat_le c.args.s.0 saved.id.0 in
    let passes : p c.saved-item.result ≡ true = grind arith in
    let rest : List Saved = option_to_list c.args.self.now.newest in
    sym (ap (λ (xs : List Saved). find p (xs ++ rest)) (sym c.deref-saved-items.ensures.value)
    ∙ find_here p c.deref-saved-items.result.now rest c.loop-saved.saved-index c.saved-item.result c.loop-saved-test.true c.saved-item.is c.loop-saved.invariant passes)

pub loop-saved-preserved : goal.loop-saved-preserved
loop-saved-preserved c =
    let p : Saved → Bool = λ saved. nat_le c.args.s.0 saved.id.0 in
    let fails : p c.saved-item.result ≡ false = grind arith in
    let xs : List Saved = c.deref-saved-items.result.now in
    ap (find p) (take_more xs c.loop-saved.saved-index c.saved-item.result c.loop-saved-test.true
    ∙ ap (λ (e : Saved). take c.loop-saved.saved-index xs ++ e ∷ []) (sym c.saved-item.is))
    ∙ find_none p (take c.loop-saved.saved-index xs) (c.saved-item.result ∷ []) c.loop-saved.invariant
    ∙ ap (λ b. cond b (Some c.saved-item.result) None) fails

pub returns-then-s-saved-2 : goal.returns-then-s-saved-2
returns-then-s-saved-2 c =
    let p : Saved → Bool = λ saved. nat_le c.args.s.0 saved.id.0 in
    let passes : p c.in-Some.saved ≡ true = grind arith in
    sym (found_last p c.deref-saved-items.result.now c.args.self.now.older.items c.loop-saved.saved-index c.args.self.now.newest (Some c.in-Some.saved)
    c.deref-saved-items.ensures.value c.loop-saved-test.false c.loop-saved.invariant c.in-Some.is ∙ ap (λ b. cond b (Some c.in-Some.saved) None) passes)

pub returns-else-s-saved-2 : goal.returns-else-s-saved-2
returns-else-s-saved-2 c =
    let p : Saved → Bool = λ saved. nat_le c.args.s.0 saved.id.0 in
    let fails : p c.in-Some.saved ≡ false = grind arith in
    sym (found_last p c.deref-saved-items.result.now c.args.self.now.older.items c.loop-saved.saved-index c.args.self.now.newest (Some c.in-Some.saved)
    c.deref-saved-items.ensures.value c.loop-saved-test.false c.loop-saved.invariant c.in-Some.is ∙ ap (λ b. cond b (Some c.in-Some.saved) None) fails)

pub returns-in-None : goal.returns-in-None
returns-in-None c =
    let p : Saved → Bool = λ saved. nat_le c.args.s.0 saved.id.0 in
    sym (found_last p c.deref-saved-items.result.now c.args.self.now.older.items c.loop-saved.saved-index c.args.self.now.newest None
    c.deref-saved-items.ensures.value c.loop-saved-test.false c.loop-saved.invariant c.in-None.is)
