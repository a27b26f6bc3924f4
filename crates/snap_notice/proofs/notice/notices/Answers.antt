use Rattle.std.proofs.Common.{◌≡◌, List, subst, sym, ap, ◌∙◌}
use Rattle.plain_types.specs.declared.message.FileTrace.{FileTrace}
use Rattle.snap_notice.specs.Notices.{told, by_client, file_trace}
use Rattle.snap_notice.proofs.Files.{AllThere, contexts, contexts_law, there_of}
use Rattle.snap_notice.proofs.Rising.{Rising, rising_law}
use Rattle.snap_notice.proofs.notice.notices.Goals as goal

-- the tree has what is told
pub all_notices-requires : goal.all_notices-requires
all_notices-requires c =
    subst (AllThere c.args.realms.now)
    (sym (c.deref.ensures.value ∙ c.in_ok-told.ensures ∙ (λ i. told (c.as_slice-2.ensures i) ((c.as_slice.ensures ∙ c.held.ensures.all) i))))
    (there_of c.args.realms.now c.args.changed.now c.args.caps.now c.requires)

pub returns-clause-traces : goal.returns-clause-traces
returns-clause-traces c =
    c.from_vec.ensures ∙ c.in_ok-list.ensures
    ∙ ap (by_client (file_trace c.args.realms.now)) (c.deref.ensures.value ∙ c.in_ok-told.ensures ∙ (λ i. told (c.as_slice-2.ensures i) ((c.as_slice.ensures ∙ c.held.ensures.all) i)))

pub returns-clause-contexts : goal.returns-clause-contexts
returns-clause-contexts c = λ family stands.
    ap contexts (c.from_vec.ensures ∙ c.in_ok-list.ensures ∙ ap (by_client (file_trace c.args.realms.now)) (c.deref.ensures.value ∙ c.in_ok-told.ensures ∙ (λ i. told (c.as_slice-2.ensures i) ((c.as_slice.ensures ∙ c.held.ensures.all) i))))
    ∙ contexts_law c.args.realms.now family (λ ino there. c.a_trace_gives_the_context.ensures c.args.realms.now family stands ino there) (told c.args.changed.now c.args.caps.now)
    (there_of c.args.realms.now c.args.changed.now c.args.caps.now c.requires)

pub returns-clause-rising : goal.returns-clause-rising
returns-clause-rising c =
    subst Rising
    (sym (c.from_vec.ensures ∙ c.in_ok-list.ensures ∙ ap (by_client (file_trace c.args.realms.now)) (c.deref.ensures.value ∙ c.in_ok-told.ensures ∙ (λ i. told (c.as_slice-2.ensures i) ((c.as_slice.ensures ∙ c.held.ensures.all) i)))))
    (rising_law c.args.realms.now c.args.changed.now c.args.caps.now c.held.ensures.table)
