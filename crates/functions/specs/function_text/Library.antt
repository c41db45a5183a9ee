-- Names of C's library, which a function for C cannot have: a program that is linked with the library has them
-- already, and a header of it that stands before the function's declares or defines them. They are those of C17
-- (ISO/IEC 9899:2018), whose section 7.1.3 reserves them, by header, with the section of each. Names that other
-- definitions cover are left out: `_` and a capital letter, `intN_t` and its kin, formats as `PRIx32`, and words of C
-- and C++.
use Rattle.std.specs.Prelude.{ℕ, List, [], ◌∷◌, ◌++◌, codes}

-- Functions, macros that take arguments, and types. A parameter may have such a name, since no argument follows it.

-- <complex.h>, 7.3
abbrev pub complex_names : List (List ℕ)
complex_names =
    codes "cacos" ∷ codes "cacosf" ∷ codes "cacosl" ∷ codes "casin" ∷ codes "casinf" ∷ codes "casinl" ∷ codes "catan"
    ∷ codes "catanf" ∷ codes "catanl" ∷ codes "ccos" ∷ codes "ccosf" ∷ codes "ccosl" ∷ codes "csin" ∷ codes "csinf"
    ∷ codes "csinl" ∷ codes "ctan" ∷ codes "ctanf" ∷ codes "ctanl" ∷ codes "cacosh" ∷ codes "cacoshf"
    ∷ codes "cacoshl" ∷ codes "casinh" ∷ codes "casinhf" ∷ codes "casinhl" ∷ codes "catanh" ∷ codes "catanhf"
    ∷ codes "catanhl" ∷ codes "ccosh" ∷ codes "ccoshf" ∷ codes "ccoshl" ∷ codes "csinh" ∷ codes "csinhf"
    ∷ codes "csinhl" ∷ codes "ctanh" ∷ codes "ctanhf" ∷ codes "ctanhl" ∷ codes "cexp" ∷ codes "cexpf" ∷ codes "cexpl"
    ∷ codes "clog" ∷ codes "clogf" ∷ codes "clogl" ∷ codes "cabs" ∷ codes "cabsf" ∷ codes "cabsl" ∷ codes "cpow"
    ∷ codes "cpowf" ∷ codes "cpowl" ∷ codes "csqrt" ∷ codes "csqrtf" ∷ codes "csqrtl" ∷ codes "carg" ∷ codes "cargf"
    ∷ codes "cargl" ∷ codes "cimag" ∷ codes "cimagf" ∷ codes "cimagl" ∷ codes "conj" ∷ codes "conjf" ∷ codes "conjl"
    ∷ codes "cproj" ∷ codes "cprojf" ∷ codes "cprojl" ∷ codes "creal" ∷ codes "crealf" ∷ codes "creall"
    ∷ codes "CMPLX" ∷ codes "CMPLXF" ∷ codes "CMPLXL" ∷ []

-- <fenv.h>, 7.6
abbrev pub fenv_names : List (List ℕ)
fenv_names =
    codes "feclearexcept" ∷ codes "fegetexceptflag" ∷ codes "feraiseexcept" ∷ codes "fesetexceptflag"
    ∷ codes "fetestexcept" ∷ codes "fegetround" ∷ codes "fesetround" ∷ codes "fegetenv" ∷ codes "feholdexcept"
    ∷ codes "fesetenv" ∷ codes "feupdateenv" ∷ codes "fenv_t" ∷ codes "fexcept_t" ∷ []

-- <inttypes.h>, 7.8
abbrev pub inttypes_names : List (List ℕ)
inttypes_names =
    codes "imaxabs" ∷ codes "imaxdiv" ∷ codes "imaxdiv_t" ∷ codes "strtoimax" ∷ codes "strtoumax" ∷ codes "wcstoimax"
    ∷ codes "wcstoumax" ∷ []

-- <math.h>, 7.12
abbrev pub math_names : List (List ℕ)
math_names =
    codes "float_t" ∷ codes "double_t" ∷ codes "fpclassify" ∷ codes "isfinite" ∷ codes "isinf" ∷ codes "isnan"
    ∷ codes "isnormal" ∷ codes "signbit" ∷ codes "acos" ∷ codes "acosf" ∷ codes "acosl" ∷ codes "asin"
    ∷ codes "asinf" ∷ codes "asinl" ∷ codes "atan" ∷ codes "atanf" ∷ codes "atanl" ∷ codes "atan2" ∷ codes "atan2f"
    ∷ codes "atan2l" ∷ codes "cos" ∷ codes "cosf" ∷ codes "cosl" ∷ codes "sin" ∷ codes "sinf" ∷ codes "sinl"
    ∷ codes "tan" ∷ codes "tanf" ∷ codes "tanl" ∷ codes "acosh" ∷ codes "acoshf" ∷ codes "acoshl" ∷ codes "asinh"
    ∷ codes "asinhf" ∷ codes "asinhl" ∷ codes "atanh" ∷ codes "atanhf" ∷ codes "atanhl" ∷ codes "cosh"
    ∷ codes "coshf" ∷ codes "coshl" ∷ codes "sinh" ∷ codes "sinhf" ∷ codes "sinhl" ∷ codes "tanh" ∷ codes "tanhf"
    ∷ codes "tanhl" ∷ codes "exp" ∷ codes "expf" ∷ codes "expl" ∷ codes "exp2" ∷ codes "exp2f" ∷ codes "exp2l"
    ∷ codes "expm1" ∷ codes "expm1f" ∷ codes "expm1l" ∷ codes "frexp" ∷ codes "frexpf" ∷ codes "frexpl"
    ∷ codes "ilogb" ∷ codes "ilogbf" ∷ codes "ilogbl" ∷ codes "ldexp" ∷ codes "ldexpf" ∷ codes "ldexpl" ∷ codes "log"
    ∷ codes "logf" ∷ codes "logl" ∷ codes "log10" ∷ codes "log10f" ∷ codes "log10l" ∷ codes "log1p" ∷ codes "log1pf"
    ∷ codes "log1pl" ∷ codes "log2" ∷ codes "log2f" ∷ codes "log2l" ∷ codes "logb" ∷ codes "logbf" ∷ codes "logbl"
    ∷ codes "modf" ∷ codes "modff" ∷ codes "modfl" ∷ codes "scalbn" ∷ codes "scalbnf" ∷ codes "scalbnl"
    ∷ codes "scalbln" ∷ codes "scalblnf" ∷ codes "scalblnl" ∷ codes "cbrt" ∷ codes "cbrtf" ∷ codes "cbrtl"
    ∷ codes "fabs" ∷ codes "fabsf" ∷ codes "fabsl" ∷ codes "hypot" ∷ codes "hypotf" ∷ codes "hypotl" ∷ codes "pow"
    ∷ codes "powf" ∷ codes "powl" ∷ codes "sqrt" ∷ codes "sqrtf" ∷ codes "sqrtl" ∷ codes "erf" ∷ codes "erff"
    ∷ codes "erfl" ∷ codes "erfc" ∷ codes "erfcf" ∷ codes "erfcl" ∷ codes "lgamma" ∷ codes "lgammaf"
    ∷ codes "lgammal" ∷ codes "tgamma" ∷ codes "tgammaf" ∷ codes "tgammal" ∷ codes "ceil" ∷ codes "ceilf"
    ∷ codes "ceill" ∷ codes "floor" ∷ codes "floorf" ∷ codes "floorl" ∷ codes "nearbyint" ∷ codes "nearbyintf"
    ∷ codes "nearbyintl" ∷ codes "rint" ∷ codes "rintf" ∷ codes "rintl" ∷ codes "lrint" ∷ codes "lrintf"
    ∷ codes "lrintl" ∷ codes "llrint" ∷ codes "llrintf" ∷ codes "llrintl" ∷ codes "round" ∷ codes "roundf"
    ∷ codes "roundl" ∷ codes "lround" ∷ codes "lroundf" ∷ codes "lroundl" ∷ codes "llround" ∷ codes "llroundf"
    ∷ codes "llroundl" ∷ codes "trunc" ∷ codes "truncf" ∷ codes "truncl" ∷ codes "fmod" ∷ codes "fmodf"
    ∷ codes "fmodl" ∷ codes "remainder" ∷ codes "remainderf" ∷ codes "remainderl" ∷ codes "remquo" ∷ codes "remquof"
    ∷ codes "remquol" ∷ codes "copysign" ∷ codes "copysignf" ∷ codes "copysignl" ∷ codes "nan" ∷ codes "nanf"
    ∷ codes "nanl" ∷ codes "nextafter" ∷ codes "nextafterf" ∷ codes "nextafterl" ∷ codes "nexttoward"
    ∷ codes "nexttowardf" ∷ codes "nexttowardl" ∷ codes "fdim" ∷ codes "fdimf" ∷ codes "fdiml" ∷ codes "fmax"
    ∷ codes "fmaxf" ∷ codes "fmaxl" ∷ codes "fmin" ∷ codes "fminf" ∷ codes "fminl" ∷ codes "fma" ∷ codes "fmaf"
    ∷ codes "fmal" ∷ codes "isgreater" ∷ codes "isgreaterequal" ∷ codes "isless" ∷ codes "islessequal"
    ∷ codes "islessgreater" ∷ codes "isunordered" ∷ []

-- <ctype.h>, 7.4
abbrev pub ctype_names : List (List ℕ)
ctype_names =
    codes "isalnum" ∷ codes "isalpha" ∷ codes "isblank" ∷ codes "iscntrl" ∷ codes "isdigit" ∷ codes "isgraph"
    ∷ codes "islower" ∷ codes "isprint" ∷ codes "ispunct" ∷ codes "isspace" ∷ codes "isupper" ∷ codes "isxdigit"
    ∷ codes "tolower" ∷ codes "toupper" ∷ []

-- <locale.h>, 7.11
abbrev pub locale_names : List (List ℕ)
locale_names =
    codes "setlocale" ∷ codes "localeconv" ∷ []

-- <string.h>, 7.24
abbrev pub string_names : List (List ℕ)
string_names =
    codes "memcpy" ∷ codes "memmove" ∷ codes "strcpy" ∷ codes "strncpy" ∷ codes "strcat" ∷ codes "strncat"
    ∷ codes "memcmp" ∷ codes "strcmp" ∷ codes "strcoll" ∷ codes "strncmp" ∷ codes "strxfrm" ∷ codes "memchr"
    ∷ codes "strchr" ∷ codes "strcspn" ∷ codes "strpbrk" ∷ codes "strrchr" ∷ codes "strspn" ∷ codes "strstr"
    ∷ codes "strtok" ∷ codes "memset" ∷ codes "strerror" ∷ codes "strlen" ∷ []

-- <uchar.h>, 7.28
abbrev pub uchar_names : List (List ℕ)
uchar_names =
    codes "mbrtoc16" ∷ codes "c16rtomb" ∷ codes "mbrtoc32" ∷ codes "c32rtomb" ∷ []

-- <wchar.h>, 7.29
abbrev pub wchar_names : List (List ℕ)
wchar_names =
    codes "mbstate_t" ∷ codes "wint_t" ∷ codes "fwprintf" ∷ codes "fwscanf" ∷ codes "swprintf" ∷ codes "swscanf"
    ∷ codes "vfwprintf" ∷ codes "vfwscanf" ∷ codes "vswprintf" ∷ codes "vswscanf" ∷ codes "vwprintf"
    ∷ codes "vwscanf" ∷ codes "wprintf" ∷ codes "wscanf" ∷ codes "fgetwc" ∷ codes "fgetws" ∷ codes "fputwc"
    ∷ codes "fputws" ∷ codes "fwide" ∷ codes "getwc" ∷ codes "getwchar" ∷ codes "putwc" ∷ codes "putwchar"
    ∷ codes "ungetwc" ∷ codes "wcstod" ∷ codes "wcstof" ∷ codes "wcstold" ∷ codes "wcstol" ∷ codes "wcstoll"
    ∷ codes "wcstoul" ∷ codes "wcstoull" ∷ codes "wcscpy" ∷ codes "wcsncpy" ∷ codes "wmemcpy" ∷ codes "wmemmove"
    ∷ codes "wcscat" ∷ codes "wcsncat" ∷ codes "wcscmp" ∷ codes "wcscoll" ∷ codes "wcsncmp" ∷ codes "wcsxfrm"
    ∷ codes "wmemcmp" ∷ codes "wcschr" ∷ codes "wcscspn" ∷ codes "wcspbrk" ∷ codes "wcsrchr" ∷ codes "wcsspn"
    ∷ codes "wcsstr" ∷ codes "wcstok" ∷ codes "wmemchr" ∷ codes "wcslen" ∷ codes "wmemset" ∷ codes "wcsftime"
    ∷ codes "btowc" ∷ codes "wctob" ∷ codes "mbsinit" ∷ codes "mbrlen" ∷ codes "mbrtowc" ∷ codes "wcrtomb"
    ∷ codes "mbsrtowcs" ∷ codes "wcsrtombs" ∷ []

-- <wctype.h>, 7.30
abbrev pub wctype_names : List (List ℕ)
wctype_names =
    codes "wctrans_t" ∷ codes "wctype_t" ∷ codes "iswalnum" ∷ codes "iswalpha" ∷ codes "iswblank" ∷ codes "iswcntrl"
    ∷ codes "iswdigit" ∷ codes "iswgraph" ∷ codes "iswlower" ∷ codes "iswprint" ∷ codes "iswpunct" ∷ codes "iswspace"
    ∷ codes "iswupper" ∷ codes "iswxdigit" ∷ codes "iswctype" ∷ codes "wctype" ∷ codes "towlower" ∷ codes "towupper"
    ∷ codes "towctrans" ∷ codes "wctrans" ∷ []

-- <assert.h>, 7.2
abbrev pub assert_names : List (List ℕ)
assert_names =
    codes "assert" ∷ []

-- <setjmp.h>, 7.13
abbrev pub setjmp_names : List (List ℕ)
setjmp_names =
    codes "jmp_buf" ∷ codes "setjmp" ∷ codes "longjmp" ∷ []

-- <signal.h>, 7.14
abbrev pub signal_names : List (List ℕ)
signal_names =
    codes "sig_atomic_t" ∷ codes "signal" ∷ codes "raise" ∷ []

-- <stdarg.h>, 7.16
abbrev pub stdarg_names : List (List ℕ)
stdarg_names =
    codes "va_list" ∷ codes "va_arg" ∷ codes "va_copy" ∷ codes "va_end" ∷ codes "va_start" ∷ []

-- <stddef.h>, 7.19
abbrev pub stddef_names : List (List ℕ)
stddef_names =
    codes "ptrdiff_t" ∷ codes "size_t" ∷ codes "max_align_t" ∷ codes "offsetof" ∷ []

-- <stdio.h>, 7.21
abbrev pub stdio_names : List (List ℕ)
stdio_names =
    codes "FILE" ∷ codes "fpos_t" ∷ codes "remove" ∷ codes "rename" ∷ codes "tmpfile" ∷ codes "tmpnam"
    ∷ codes "fclose" ∷ codes "fflush" ∷ codes "fopen" ∷ codes "freopen" ∷ codes "setbuf" ∷ codes "setvbuf"
    ∷ codes "fprintf" ∷ codes "fscanf" ∷ codes "printf" ∷ codes "scanf" ∷ codes "snprintf" ∷ codes "sprintf"
    ∷ codes "sscanf" ∷ codes "vfprintf" ∷ codes "vfscanf" ∷ codes "vprintf" ∷ codes "vscanf" ∷ codes "vsnprintf"
    ∷ codes "vsprintf" ∷ codes "vsscanf" ∷ codes "fgetc" ∷ codes "fgets" ∷ codes "fputc" ∷ codes "fputs"
    ∷ codes "getc" ∷ codes "getchar" ∷ codes "putc" ∷ codes "putchar" ∷ codes "puts" ∷ codes "ungetc" ∷ codes "fread"
    ∷ codes "fwrite" ∷ codes "fgetpos" ∷ codes "fseek" ∷ codes "fsetpos" ∷ codes "ftell" ∷ codes "rewind"
    ∷ codes "clearerr" ∷ codes "feof" ∷ codes "ferror" ∷ codes "perror" ∷ []

-- <stdlib.h>, 7.22
abbrev pub stdlib_names : List (List ℕ)
stdlib_names =
    codes "div_t" ∷ codes "ldiv_t" ∷ codes "lldiv_t" ∷ codes "atof" ∷ codes "atoi" ∷ codes "atol" ∷ codes "atoll"
    ∷ codes "strtod" ∷ codes "strtof" ∷ codes "strtold" ∷ codes "strtol" ∷ codes "strtoll" ∷ codes "strtoul"
    ∷ codes "strtoull" ∷ codes "rand" ∷ codes "srand" ∷ codes "aligned_alloc" ∷ codes "calloc" ∷ codes "free"
    ∷ codes "malloc" ∷ codes "realloc" ∷ codes "abort" ∷ codes "atexit" ∷ codes "at_quick_exit" ∷ codes "exit"
    ∷ codes "getenv" ∷ codes "quick_exit" ∷ codes "system" ∷ codes "bsearch" ∷ codes "qsort" ∷ codes "abs"
    ∷ codes "labs" ∷ codes "llabs" ∷ codes "div" ∷ codes "ldiv" ∷ codes "lldiv" ∷ codes "mblen" ∷ codes "mbtowc"
    ∷ codes "wctomb" ∷ codes "mbstowcs" ∷ codes "wcstombs" ∷ []

-- <time.h>, 7.27
abbrev pub time_names : List (List ℕ)
time_names =
    codes "clock_t" ∷ codes "time_t" ∷ codes "clock" ∷ codes "difftime" ∷ codes "mktime" ∷ codes "time"
    ∷ codes "timespec_get" ∷ codes "asctime" ∷ codes "ctime" ∷ codes "gmtime" ∷ codes "localtime" ∷ codes "strftime"
    ∷ []

-- <stdatomic.h>, 7.17
abbrev pub stdatomic_names : List (List ℕ)
stdatomic_names =
    codes "memory_order" ∷ codes "memory_order_relaxed" ∷ codes "memory_order_consume" ∷ codes "memory_order_acquire"
    ∷ codes "memory_order_release" ∷ codes "memory_order_acq_rel" ∷ codes "memory_order_seq_cst"
    ∷ codes "atomic_init" ∷ codes "kill_dependency" ∷ codes "atomic_thread_fence" ∷ codes "atomic_signal_fence"
    ∷ codes "atomic_is_lock_free" ∷ codes "atomic_store" ∷ codes "atomic_store_explicit" ∷ codes "atomic_load"
    ∷ codes "atomic_load_explicit" ∷ codes "atomic_exchange" ∷ codes "atomic_exchange_explicit"
    ∷ codes "atomic_compare_exchange_strong" ∷ codes "atomic_compare_exchange_strong_explicit"
    ∷ codes "atomic_compare_exchange_weak" ∷ codes "atomic_compare_exchange_weak_explicit" ∷ codes "atomic_fetch_add"
    ∷ codes "atomic_fetch_add_explicit" ∷ codes "atomic_fetch_sub" ∷ codes "atomic_fetch_sub_explicit"
    ∷ codes "atomic_fetch_or" ∷ codes "atomic_fetch_or_explicit" ∷ codes "atomic_fetch_xor"
    ∷ codes "atomic_fetch_xor_explicit" ∷ codes "atomic_fetch_and" ∷ codes "atomic_fetch_and_explicit"
    ∷ codes "atomic_flag" ∷ codes "atomic_flag_test_and_set" ∷ codes "atomic_flag_test_and_set_explicit"
    ∷ codes "atomic_flag_clear" ∷ codes "atomic_flag_clear_explicit" ∷ codes "atomic_bool" ∷ codes "atomic_char"
    ∷ codes "atomic_schar" ∷ codes "atomic_uchar" ∷ codes "atomic_short" ∷ codes "atomic_ushort" ∷ codes "atomic_int"
    ∷ codes "atomic_uint" ∷ codes "atomic_long" ∷ codes "atomic_ulong" ∷ codes "atomic_llong" ∷ codes "atomic_ullong"
    ∷ codes "atomic_char16_t" ∷ codes "atomic_char32_t" ∷ codes "atomic_wchar_t" ∷ codes "atomic_int_least8_t"
    ∷ codes "atomic_uint_least8_t" ∷ codes "atomic_int_least16_t" ∷ codes "atomic_uint_least16_t"
    ∷ codes "atomic_int_least32_t" ∷ codes "atomic_uint_least32_t" ∷ codes "atomic_int_least64_t"
    ∷ codes "atomic_uint_least64_t" ∷ codes "atomic_int_fast8_t" ∷ codes "atomic_uint_fast8_t"
    ∷ codes "atomic_int_fast16_t" ∷ codes "atomic_uint_fast16_t" ∷ codes "atomic_int_fast32_t"
    ∷ codes "atomic_uint_fast32_t" ∷ codes "atomic_int_fast64_t" ∷ codes "atomic_uint_fast64_t"
    ∷ codes "atomic_intptr_t" ∷ codes "atomic_uintptr_t" ∷ codes "atomic_size_t" ∷ codes "atomic_ptrdiff_t"
    ∷ codes "atomic_intmax_t" ∷ codes "atomic_uintmax_t" ∷ codes "ATOMIC_VAR_INIT" ∷ []

-- <threads.h>, 7.26
abbrev pub threads_names : List (List ℕ)
threads_names =
    codes "cnd_t" ∷ codes "thrd_t" ∷ codes "tss_t" ∷ codes "mtx_t" ∷ codes "tss_dtor_t" ∷ codes "thrd_start_t"
    ∷ codes "once_flag" ∷ codes "mtx_plain" ∷ codes "mtx_recursive" ∷ codes "mtx_timed" ∷ codes "thrd_timedout"
    ∷ codes "thrd_success" ∷ codes "thrd_busy" ∷ codes "thrd_error" ∷ codes "thrd_nomem" ∷ codes "call_once"
    ∷ codes "cnd_broadcast" ∷ codes "cnd_destroy" ∷ codes "cnd_init" ∷ codes "cnd_signal" ∷ codes "cnd_timedwait"
    ∷ codes "cnd_wait" ∷ codes "mtx_destroy" ∷ codes "mtx_init" ∷ codes "mtx_lock" ∷ codes "mtx_timedlock"
    ∷ codes "mtx_trylock" ∷ codes "mtx_unlock" ∷ codes "thrd_create" ∷ codes "thrd_current" ∷ codes "thrd_detach"
    ∷ codes "thrd_equal" ∷ codes "thrd_exit" ∷ codes "thrd_join" ∷ codes "thrd_sleep" ∷ codes "thrd_yield"
    ∷ codes "tss_create" ∷ codes "tss_delete" ∷ codes "tss_get" ∷ codes "tss_set" ∷ []

-- arithmetic: complex and real numbers, their environment, and the widest integers
abbrev pub number_names : List (List ℕ)
number_names = complex_names ++ fenv_names ++ inttypes_names ++ math_names

-- characters and strings
abbrev pub text_names : List (List ℕ)
text_names = ctype_names ++ locale_names ++ string_names ++ uchar_names ++ wchar_names ++ wctype_names

-- files, memory, time and the program itself
abbrev pub system_names : List (List ℕ)
system_names =
    assert_names ++ setjmp_names ++ signal_names ++ stdarg_names ++ stddef_names ++ stdio_names ++ stdlib_names
    ++ time_names

-- threads and atomic objects
abbrev pub thread_names : List (List ℕ)
thread_names = stdatomic_names ++ threads_names

-- Macros without arguments, which no parameter can have either: the preprocessor replaces them wherever they stand.

-- <assert.h>, 7.2
abbrev pub assert_macros : List (List ℕ)
assert_macros =
    codes "NDEBUG" ∷ []

-- <complex.h>, 7.3
abbrev pub complex_macros : List (List ℕ)
complex_macros =
    codes "complex" ∷ codes "imaginary" ∷ codes "I" ∷ []

-- <errno.h>, 7.5
abbrev pub errno_macros : List (List ℕ)
errno_macros =
    codes "errno" ∷ codes "EDOM" ∷ codes "EILSEQ" ∷ codes "ERANGE" ∷ []

-- <fenv.h>, 7.6
abbrev pub fenv_macros : List (List ℕ)
fenv_macros =
    codes "FE_DIVBYZERO" ∷ codes "FE_INEXACT" ∷ codes "FE_INVALID" ∷ codes "FE_OVERFLOW" ∷ codes "FE_UNDERFLOW"
    ∷ codes "FE_ALL_EXCEPT" ∷ codes "FE_DOWNWARD" ∷ codes "FE_TONEAREST" ∷ codes "FE_TOWARDZERO" ∷ codes "FE_UPWARD"
    ∷ codes "FE_DFL_ENV" ∷ []

-- <float.h>, 7.7
abbrev pub float_macros : List (List ℕ)
float_macros =
    codes "FLT_ROUNDS" ∷ codes "FLT_EVAL_METHOD" ∷ codes "FLT_RADIX" ∷ codes "DECIMAL_DIG" ∷ codes "FLT_HAS_SUBNORM"
    ∷ codes "DBL_HAS_SUBNORM" ∷ codes "LDBL_HAS_SUBNORM" ∷ codes "FLT_MANT_DIG" ∷ codes "DBL_MANT_DIG"
    ∷ codes "LDBL_MANT_DIG" ∷ codes "FLT_DECIMAL_DIG" ∷ codes "DBL_DECIMAL_DIG" ∷ codes "LDBL_DECIMAL_DIG"
    ∷ codes "FLT_DIG" ∷ codes "DBL_DIG" ∷ codes "LDBL_DIG" ∷ codes "FLT_MIN_EXP" ∷ codes "DBL_MIN_EXP"
    ∷ codes "LDBL_MIN_EXP" ∷ codes "FLT_MIN_10_EXP" ∷ codes "DBL_MIN_10_EXP" ∷ codes "LDBL_MIN_10_EXP"
    ∷ codes "FLT_MAX_EXP" ∷ codes "DBL_MAX_EXP" ∷ codes "LDBL_MAX_EXP" ∷ codes "FLT_MAX_10_EXP"
    ∷ codes "DBL_MAX_10_EXP" ∷ codes "LDBL_MAX_10_EXP" ∷ codes "FLT_MAX" ∷ codes "DBL_MAX" ∷ codes "LDBL_MAX"
    ∷ codes "FLT_EPSILON" ∷ codes "DBL_EPSILON" ∷ codes "LDBL_EPSILON" ∷ codes "FLT_MIN" ∷ codes "DBL_MIN"
    ∷ codes "LDBL_MIN" ∷ codes "FLT_TRUE_MIN" ∷ codes "DBL_TRUE_MIN" ∷ codes "LDBL_TRUE_MIN" ∷ []

-- <limits.h>, 7.10
abbrev pub limits_macros : List (List ℕ)
limits_macros =
    codes "CHAR_BIT" ∷ codes "SCHAR_MIN" ∷ codes "SCHAR_MAX" ∷ codes "UCHAR_MAX" ∷ codes "CHAR_MIN"
    ∷ codes "CHAR_MAX" ∷ codes "MB_LEN_MAX" ∷ codes "SHRT_MIN" ∷ codes "SHRT_MAX" ∷ codes "USHRT_MAX"
    ∷ codes "LONG_MIN" ∷ codes "LONG_MAX" ∷ codes "ULONG_MAX" ∷ codes "LLONG_MIN" ∷ codes "LLONG_MAX"
    ∷ codes "ULLONG_MAX" ∷ []

-- <locale.h>, 7.11
abbrev pub locale_macros : List (List ℕ)
locale_macros =
    codes "LC_ALL" ∷ codes "LC_COLLATE" ∷ codes "LC_CTYPE" ∷ codes "LC_MONETARY" ∷ codes "LC_NUMERIC"
    ∷ codes "LC_TIME" ∷ []

-- <math.h>, 7.12
abbrev pub math_macros : List (List ℕ)
math_macros =
    codes "HUGE_VAL" ∷ codes "HUGE_VALF" ∷ codes "HUGE_VALL" ∷ codes "INFINITY" ∷ codes "NAN" ∷ codes "FP_INFINITE"
    ∷ codes "FP_NAN" ∷ codes "FP_NORMAL" ∷ codes "FP_SUBNORMAL" ∷ codes "FP_ZERO" ∷ codes "FP_FAST_FMA"
    ∷ codes "FP_FAST_FMAF" ∷ codes "FP_FAST_FMAL" ∷ codes "FP_ILOGB0" ∷ codes "FP_ILOGBNAN" ∷ codes "MATH_ERRNO"
    ∷ codes "MATH_ERREXCEPT" ∷ codes "math_errhandling" ∷ []

-- <signal.h>, 7.14
abbrev pub signal_macros : List (List ℕ)
signal_macros =
    codes "SIG_DFL" ∷ codes "SIG_ERR" ∷ codes "SIG_IGN" ∷ codes "SIGABRT" ∷ codes "SIGFPE" ∷ codes "SIGILL"
    ∷ codes "SIGINT" ∷ codes "SIGSEGV" ∷ codes "SIGTERM" ∷ []

-- <stdatomic.h>, 7.17
abbrev pub stdatomic_macros : List (List ℕ)
stdatomic_macros =
    codes "ATOMIC_BOOL_LOCK_FREE" ∷ codes "ATOMIC_CHAR_LOCK_FREE" ∷ codes "ATOMIC_CHAR16_T_LOCK_FREE"
    ∷ codes "ATOMIC_CHAR32_T_LOCK_FREE" ∷ codes "ATOMIC_WCHAR_T_LOCK_FREE" ∷ codes "ATOMIC_SHORT_LOCK_FREE"
    ∷ codes "ATOMIC_INT_LOCK_FREE" ∷ codes "ATOMIC_LONG_LOCK_FREE" ∷ codes "ATOMIC_LLONG_LOCK_FREE"
    ∷ codes "ATOMIC_POINTER_LOCK_FREE" ∷ codes "ATOMIC_FLAG_INIT" ∷ []

-- <stddef.h>, 7.19
abbrev pub stddef_macros : List (List ℕ)
stddef_macros =
    codes "NULL" ∷ []

-- <stdio.h>, 7.21
abbrev pub stdio_macros : List (List ℕ)
stdio_macros =
    codes "BUFSIZ" ∷ codes "EOF" ∷ codes "FOPEN_MAX" ∷ codes "FILENAME_MAX" ∷ codes "L_tmpnam" ∷ codes "SEEK_CUR"
    ∷ codes "SEEK_END" ∷ codes "SEEK_SET" ∷ codes "TMP_MAX" ∷ codes "stderr" ∷ codes "stdin" ∷ codes "stdout" ∷ []

-- <stdlib.h>, 7.22
abbrev pub stdlib_macros : List (List ℕ)
stdlib_macros =
    codes "EXIT_FAILURE" ∷ codes "EXIT_SUCCESS" ∷ codes "RAND_MAX" ∷ codes "MB_CUR_MAX" ∷ []

-- <stdnoreturn.h>, 7.23
abbrev pub stdnoreturn_macros : List (List ℕ)
stdnoreturn_macros =
    codes "noreturn" ∷ []

-- <threads.h>, 7.26
abbrev pub threads_macros : List (List ℕ)
threads_macros =
    codes "ONCE_FLAG_INIT" ∷ codes "TSS_DTOR_ITERATIONS" ∷ []

-- <time.h>, 7.27
abbrev pub time_macros : List (List ℕ)
time_macros =
    codes "CLOCKS_PER_SEC" ∷ codes "TIME_UTC" ∷ []

-- <wchar.h>, 7.29
abbrev pub wchar_macros : List (List ℕ)
wchar_macros =
    codes "WEOF" ∷ []

abbrev pub macro_names : List (List ℕ)
macro_names =
    assert_macros ++ complex_macros ++ errno_macros ++ fenv_macros ++ float_macros ++ limits_macros ++ locale_macros
    ++ math_macros ++ signal_macros ++ stdatomic_macros ++ stddef_macros ++ stdio_macros ++ stdlib_macros
    ++ stdnoreturn_macros ++ threads_macros ++ time_macros ++ wchar_macros
