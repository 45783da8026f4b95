-- What a request of the code stands for.
use Rattle.osal_run.specs.declared.request.Request as kept
use Rattle.osal_run.specs.declared.request.Request.TheVariants as request
use Rattle.osal_run.specs.Request.{Request, File, Make}

-- the request that is kept, with the name that it borrows
abbrev pub asked : kept.Request → Request
asked (request.File name journal) = File name.now journal
asked (request.Make workers) = Make workers
