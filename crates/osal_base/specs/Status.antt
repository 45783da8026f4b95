-- The numbers and names of OSAL's status codes.
use Rattle.std.specs.Prelude.{List, [], ◌∷◌, ℕ, Option, codes, find, pos, negsuc}
use Rattle.std.proofs.Common.{ℤ}
use Rattle.std.specs.Ordering.{int_eq}
use Rattle.osal_base.specs.declared.status.Status.{Status}
use Rattle.osal_base.specs.declared.status.Status.TheVariants as status

-- the number of a status
abbrev pub number_of : Status → ℤ
number_of status.Success = pos 0
number_of status.Error = negsuc 0
number_of status.InvalidPointer = negsuc 1
number_of status.ErrorTimeout = negsuc 3
number_of status.SemFailure = negsuc 5
number_of status.SemTimeout = negsuc 6
number_of status.QueueEmpty = negsuc 7
number_of status.QueueFull = negsuc 8
number_of status.QueueTimeout = negsuc 9
number_of status.QueueInvalidSize = negsuc 10
number_of status.ErrNameTooLong = negsuc 12
number_of status.ErrNoFreeIds = negsuc 13
number_of status.ErrNameTaken = negsuc 14
number_of status.ErrInvalidId = negsuc 15
number_of status.ErrNameNotFound = negsuc 16
number_of status.ErrInvalidPriority = negsuc 18
number_of status.InvalidSemValue = negsuc 19
number_of status.TimerErrInvalidArgs = negsuc 28
number_of status.ErrObjectInUse = negsuc 32
number_of status.ErrIncorrectObjState = negsuc 34
number_of status.ErrIncorrectObjType = negsuc 35
number_of status.ErrStreamDisconnected = negsuc 36
number_of status.ErrInvalidSize = negsuc 39
number_of status.ErrInvalidArgument = negsuc 41
number_of status.FsErrPathTooLong = negsuc 102
number_of status.FsErrNameTooLong = negsuc 103
number_of status.FsErrDeviceNotFree = negsuc 106
number_of status.FsErrPathInvalid = negsuc 107

-- the name of a status
abbrev pub status_name : Status → List ℕ
status_name status.Success = codes "OS_SUCCESS"
status_name status.Error = codes "OS_ERROR"
status_name status.InvalidPointer = codes "OS_INVALID_POINTER"
status_name status.ErrorTimeout = codes "OS_ERROR_TIMEOUT"
status_name status.SemFailure = codes "OS_SEM_FAILURE"
status_name status.SemTimeout = codes "OS_SEM_TIMEOUT"
status_name status.QueueEmpty = codes "OS_QUEUE_EMPTY"
status_name status.QueueFull = codes "OS_QUEUE_FULL"
status_name status.QueueTimeout = codes "OS_QUEUE_TIMEOUT"
status_name status.QueueInvalidSize = codes "OS_QUEUE_INVALID_SIZE"
status_name status.ErrNameTooLong = codes "OS_ERR_NAME_TOO_LONG"
status_name status.ErrNoFreeIds = codes "OS_ERR_NO_FREE_IDS"
status_name status.ErrNameTaken = codes "OS_ERR_NAME_TAKEN"
status_name status.ErrInvalidId = codes "OS_ERR_INVALID_ID"
status_name status.ErrNameNotFound = codes "OS_ERR_NAME_NOT_FOUND"
status_name status.ErrInvalidPriority = codes "OS_ERR_INVALID_PRIORITY"
status_name status.InvalidSemValue = codes "OS_INVALID_SEM_VALUE"
status_name status.TimerErrInvalidArgs = codes "OS_TIMER_ERR_INVALID_ARGS"
status_name status.ErrObjectInUse = codes "OS_ERR_OBJECT_IN_USE"
status_name status.ErrIncorrectObjState = codes "OS_ERR_INCORRECT_OBJ_STATE"
status_name status.ErrIncorrectObjType = codes "OS_ERR_INCORRECT_OBJ_TYPE"
status_name status.ErrStreamDisconnected = codes "OS_ERR_STREAM_DISCONNECTED"
status_name status.ErrInvalidSize = codes "OS_ERR_INVALID_SIZE"
status_name status.ErrInvalidArgument = codes "OS_ERR_INVALID_ARGUMENT"
status_name status.FsErrPathTooLong = codes "OS_FS_ERR_PATH_TOO_LONG"
status_name status.FsErrNameTooLong = codes "OS_FS_ERR_NAME_TOO_LONG"
status_name status.FsErrDeviceNotFree = codes "OS_FS_ERR_DEVICE_NOT_FREE"
status_name status.FsErrPathInvalid = codes "OS_FS_ERR_PATH_INVALID"

-- all statuses
abbrev pub all_statuses : List Status
all_statuses =
    status.Success ∷ status.Error ∷ status.InvalidPointer ∷ status.ErrorTimeout
    ∷ status.SemFailure ∷ status.SemTimeout ∷ status.QueueEmpty ∷ status.QueueFull
    ∷ status.QueueTimeout ∷ status.QueueInvalidSize ∷ status.ErrNameTooLong ∷ status.ErrNoFreeIds
    ∷ status.ErrNameTaken ∷ status.ErrInvalidId ∷ status.ErrNameNotFound ∷ status.ErrInvalidPriority
    ∷ status.InvalidSemValue ∷ status.TimerErrInvalidArgs ∷ status.ErrObjectInUse ∷ status.ErrIncorrectObjState
    ∷ status.ErrIncorrectObjType ∷ status.ErrStreamDisconnected ∷ status.ErrInvalidSize ∷ status.ErrInvalidArgument
    ∷ status.FsErrPathTooLong ∷ status.FsErrNameTooLong ∷ status.FsErrDeviceNotFree ∷ status.FsErrPathInvalid ∷ []

-- the status with that number, if there is one
abbrev pub status_of : ℤ → Option Status
status_of number = find (λ s. int_eq (number_of s) number) all_statuses
