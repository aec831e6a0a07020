use Rattle.std.proofs.Common.{◌≡◌, Err, sym, subst}
use Rattle.htl_load.proofs.{Refusals.accepted_is_not_refused, OneAnswer.bad_field_told, OneAnswer.accepted_bytes, OneAnswer.fault_told}
use Rattle.htl_load.proofs.Words.{IsRefused, HasBytes, IsAccepted, IsDecoded, IsReadAs, DecodeFault, Object}
use Rattle.htl_object.specs.declared.decoding.DecodeFault.TheVariants as decode
use Rattle.htl_load.proofs.loading.load.Goals as goal

pub returns-in-Err-clause-only : goal.returns-in-Err-clause-only
returns-in-Err-clause-only c = λ o has accepted.
    let same : c.in-Ok.o ≡ o = c.in-Ok.ensures.only o has.object has.spelled in
    accepted_is_not_refused o c.in-Err.fault accepted (subst (λ (x : Object). IsRefused x c.in-Err.fault) same c.in-Err.ensures.refused)

pub returns-in-Err-Malformed-clause-refused : goal.returns-in-Err-Malformed-clause-refused
returns-in-Err-Malformed-clause-refused c =
    let bytes = c.args.bytes.now in
    let fault = decode.Malformed c.in-Err-Malformed.bad in
    let is : c.in-Err-Malformed.field-0 ≡ fault = c.in-Err-Malformed.field-0-is in
    bad_field_told bytes c.in-Err-Malformed.bad (subst (λ (e : DecodeFault). IsDecoded bytes (Err e)) is c.in-Err-Malformed.ensures.exact)
    (λ p has. subst (λ (e : DecodeFault). IsReadAs p (Err e)) is (c.in-Err-Malformed.ensures.only p has.object has.spelled))

pub returns-in-Ok-tested-clause-loaded : goal.returns-in-Ok-tested-clause-loaded
returns-in-Ok-tested-clause-loaded c =
    subst (λ (x : Object). HasBytes c.args.bytes.now x × IsAccepted x) (sym c.in-Ok-tested.ensures.accepted.0)
    (record { object = c.in-Ok.ensures.found.0; spelled = c.in-Ok.ensures.found.1 }, c.in-Ok-tested.ensures.accepted.1)

pub returns-in-Ok-tested-clause-refused : goal.returns-in-Ok-tested-clause-refused
returns-in-Ok-tested-clause-refused c =
    accepted_bytes c.args.bytes.now c.in-Ok.o c.in-Ok.ensures.exact (λ p has. c.in-Ok.ensures.only p has.object has.spelled) c.in-Ok-tested.ensures.accepted.1

pub returns-in-Err-clause-refused : goal.returns-in-Err-clause-refused
returns-in-Err-clause-refused c =
    fault_told c.args.bytes.now c.in-Ok.o c.in-Ok.ensures.exact (λ p has. c.in-Ok.ensures.only p has.object has.spelled) c.in-Ok.ensures.found.0.ranges c.in-Err.fault
    c.in-Err.ensures.refused
